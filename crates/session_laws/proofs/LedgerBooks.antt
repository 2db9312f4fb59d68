-- A ledger and what its side holds, in balance: each count added to it leaves it so, and none wraps. Assumes nothing.
use mathlib.Core.Path.{◌≡◌}
use Prim.Native.Nat.{ℕ, ◌+◌, ◌^◌, ◌≤◌, ◌<◌}
use native.Mathlib.Omega.{arith}
use Rattle.client.specs.declared.Ledger.{Ledger}
use Rattle.client.specs.Ledgers.{counted, takes, applies, loads}

-- from a side that held h at the start: k command words so far, g entries held now, and h with what was taken and copied is at most n
pub record Books (h n k : ℕ) (l : Ledger) (g : ℕ) : Type 0 where
  pub balance : h + l.taken + l.copied ≡ l.applied + l.leftout + l.replaced + g
  pub words : l.applied ≡ k
  pub most : h + l.taken + l.copied ≤ n

-- a count that stays below 2 ^ 64
pub counted_all : (a n : ℕ) → a + n < 2 ^ 64 → counted a n ≡ a + n
counted_all a n h = omega arith

-- a larger bound
pub books_more : {h n m k g : ℕ} {l : Ledger} → n ≤ m → Books h n k l g → Books h m k l g
books_more e b = record { balance = b.balance; words = b.words; most = omega (arith, e, b.most) }

-- the same by other names
pub books_as : {h n k j g f : ℕ} {l : Ledger} → k ≡ j → g ≡ f → Books h n k l g → Books h n j l f
books_as e d b = record { balance = omega (arith, b.balance, d); words = omega (arith, b.words, e); most = b.most }

-- a of the entries are applied and d are left out
pub books_applies : {h n k g : ℕ} (l : Ledger) (a d f : ℕ) → n < 2 ^ 64 → g ≡ a + d + f → Books h n k l g → Books h n (k + a) (applies l a d) f
books_applies {h} {n} {k} {g} l a d f z e b =
    let p : counted l.applied a ≡ l.applied + a = counted_all l.applied a (omega (arith, b.balance, b.most, z, e)) in
    let q : counted l.leftout d ≡ l.leftout + d = counted_all l.leftout d (omega (arith, b.balance, b.most, z, e)) in
    record { balance = omega (arith, b.balance, p, q, e); words = omega (arith, b.words, p); most = b.most }

-- c entries, of which d are left out, take the place of all that is held
pub books_loads : {h n k g : ℕ} (l : Ledger) (c d f : ℕ) → n + 64 < 2 ^ 64 → c ≤ 64 → c ≡ d + f → Books h n k l g → Books h (n + 64) k (loads l c g d) f
books_loads {h} {n} {k} {g} l c d f z m e b =
    let p : counted l.copied c ≡ l.copied + c = counted_all l.copied c (omega (arith, b.most, z, m)) in
    let q : counted l.replaced g ≡ l.replaced + g = counted_all l.replaced g (omega (arith, b.balance, b.most, z)) in
    let r : counted l.leftout d ≡ l.leftout + d = counted_all l.leftout d (omega (arith, b.balance, b.most, z, m, e)) in
    record { balance = omega (arith, b.balance, p, q, r, e); words = b.words; most = omega (arith, b.most, p, m) }

-- one more is taken, or none
pub books_takes : {h n k g : ℕ} (l : Ledger) (t f : ℕ) → n + 1 < 2 ^ 64 → t ≤ 1 → f ≡ g + t → Books h n k l g → Books h (n + 1) k (takes l t) f
books_takes {h} {n} {k} {g} l t f z m e b =
    let p : counted l.taken t ≡ l.taken + t = counted_all l.taken t (omega (arith, b.most, z, m)) in
    record { balance = omega (arith, b.balance, p, e); words = b.words; most = omega (arith, b.most, p, m) }
