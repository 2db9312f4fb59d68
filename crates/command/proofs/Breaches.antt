-- The test of a sound buffer by counted breaches: what its loop keeps, and that none and a last rank in range are what soundness asks. Assumes nothing.
use mathlib.Core.Path.{◌≡◌, refl, sym, ap, ◌∙◌}
use mathlib.Core.List.{List, [], ◌∷◌}
use mathlib.Core.Logic.{inl, inr, ◌⊎◌}
use mathlib.Core.Bool.{Bool, true, false, not, cond, ◌&&◌, ◌||◌, and-false}
use Prim.Native.Nat.{ℕ, zero, suc, ◌+◌, ◌≤◌, ◌<◌}
use native.Mathlib.Omega.{arith}
use native.Mathlib.Numerals.{add-one}
use lib.Dec.{leb, ltb, eqb}
use lib.ListN.{length, drop, get_or, drop_of_length-le}
use lib.Seq.{drop-cons}
use borrow.Author.Tests.{le-leb, lt-leb, lt-ltb, le-ltb, ne_eqb}
use Rattle.timestamp.specs.declared.Timestamp.{Timestamp}
use Rattle.timestamp.proofs.Basics.{split}
use Rattle.command.specs.Entries.{Entry, plain_entry}
use Rattle.command.specs.declared.CommandBuffer.{CommandBuffer}
use Rattle.command.specs.Buffer.{held}
use Rattle.command.specs.Ranks.{sound_rank, breach}
use Rattle.command.specs.Soundness.{sound_buffer}
use Rattle.command.proofs.Ranks.{rank_in}
use Rattle.command.proofs.Soundness.{sound_from, buffer_is}

-- how many entries break a rule where the last one before them ranked lo, and the rank of the last of them
abbrev counted : Bool → ℕ → ℕ
counted b n = cond b (n + 1) n

abbrev breaches : Timestamp → ℕ → List Entry → ℕ
breaches m lo [] = 0
breaches m lo (x ∷ xs) = counted (breach lo (rank_in m x) x) (breaches m (rank_in m x) xs)

abbrev last_rank : Timestamp → ℕ → List Entry → ℕ
last_rank m lo [] = lo
last_rank m lo (x ∷ xs) = last_rank m (rank_in m x) xs

-- ---- the loop

-- of the entries xs the first i were read: n of them break a rule, and the last ranked lo
pub record Tested (m : Timestamp) (xs : List Entry) (i lo n : ℕ) : Type 0 where
  pub count : n + breaches m lo (drop i xs) ≡ breaches m 16385 xs
  pub last : last_rank m lo (drop i xs) ≡ last_rank m 16385 xs
  pub few : n ≤ i

pub tested_none : (m : Timestamp) (xs : List Entry) → Tested m xs 0 16385 0
tested_none m xs = record { count = omega arith; last = refl; few = omega arith }

module _ {m : Timestamp} {xs : List Entry} {i lo n : ℕ} (t : Tested m xs i lo n) (d : Entry) (h : i < length xs) {k : ℕ} (hk : k ≡ rank_in m (get_or xs i d))
  where
    next : drop i xs ≡ get_or xs i d ∷ drop (i + 1) xs
    next = rw (add-one i) (drop-cons xs i d h)

    last_next : last_rank m k (drop (i + 1) xs) ≡ last_rank m 16385 xs
    last_next = ap (λ (r : ℕ). last_rank m r (drop (i + 1) xs)) hk ∙ sym (ap (last_rank m lo) next) ∙ t.last

    count_next : (b : Bool) → breach lo k (get_or xs i d) ≡ b → n + counted b (breaches m k (drop (i + 1) xs)) ≡ breaches m 16385 xs
    count_next b e =
        ap (λ (r : ℕ). n + counted b (breaches m r (drop (i + 1) xs))) hk
        ∙ ap (λ (c : Bool). n + counted c (breaches m (rank_in m (get_or xs i d)) (drop (i + 1) xs)))
        (sym e ∙ ap (λ (r : ℕ). breach lo r (get_or xs i d)) hk)
        ∙ sym (ap (λ (l : List Entry). n + breaches m lo l) next) ∙ t.count

    -- it breaks a rule
    pub tested_breach : breach lo k (get_or xs i d) ≡ true → Tested m xs (i + 1) k (n + 1)
    tested_breach e = record { count = omega (arith, count_next true e); last = last_next; few = omega (arith, t.few) }

    -- or none
    pub tested_well : breach lo k (get_or xs i d) ≡ false → Tested m xs (i + 1) k n
    tested_well e = record { count = count_next false e; last = last_next; few = omega (arith, t.few) }

-- ---- none, and a last rank in range

-- where none breaks a rule no rank is below one before it
last_most : (m : Timestamp) (lo : ℕ) (xs : List Entry) → breaches m lo xs ≡ 0 → lo ≤ last_rank m lo xs
unfolding breach
last_most m lo [] h = omega arith
last_most m lo (x ∷ xs) h = go (last_most m (rank_in m x) xs) (split (rank_in m x) lo) (plain_entry x) refl
  where
    k : ℕ
    k = rank_in m x

    go : (breaches m k xs ≡ 0 → k ≤ last_rank m k xs) → (k < lo) ⊎ (lo ≤ k) → (p : Bool) → plain_entry x ≡ p → lo ≤ last_rank m k xs
    go more (inl l) p e = let z : breaches m k xs + 1 ≡ 0 = rw (lt-ltb k lo l) at h in absurd (omega (arith, z))
    go more (inr l) true e = let z : breaches m k xs ≡ 0 = rw (le-ltb k lo l, e) at h in omega (arith, l, more z)
    go more (inr l) false e = let z : breaches m k xs + 1 ≡ 0 = rw (le-ltb k lo l, e) at h in absurd (omega (arith, z))

some_left : (k : ℕ) → 0 < k → eqb k 0 ≡ false
some_left k h = ne_eqb k 0 (λ e. omega (arith, e, h))

-- so it is what soundness asks of them, where the last one before them is in range
range_is : (m : Timestamp) (lo : ℕ) (xs : List Entry) → 16385 ≤ lo → lo < 49151
    → eqb (breaches m lo xs) 0 && ltb (last_rank m lo xs) 49151 ≡ sound_from m lo xs
unfolding breach sound_rank sound_from
range_is m lo [] f g = lt-ltb lo 49151 g
range_is m lo (x ∷ xs) f g = go (range_is m (rank_in m x) xs) (split (rank_in m x) lo) (plain_entry x) (split (rank_in m x) 49151)
  where
    k : ℕ
    k = rank_in m x

    -- the last rank is beyond the range, or an entry breaks a rule
    beyond : 49151 ≤ k → (n : ℕ) → breaches m k xs ≡ n → eqb n 0 && ltb (last_rank m k xs) 49151 ≡ false
    beyond u zero e = le-ltb (last_rank m k xs) 49151 (omega (arith, u, last_most m k xs e))
    beyond u (suc n) e = ap (λ (b : Bool). b && ltb (last_rank m k xs) 49151) (some_left (suc n) (omega arith))

    go : (16385 ≤ k → k < 49151 → eqb (breaches m k xs) 0 && ltb (last_rank m k xs) 49151 ≡ sound_from m k xs) → (k < lo) ⊎ (lo ≤ k) → (p : Bool)
        → (k < 49151) ⊎ (49151 ≤ k) → eqb (counted (ltb k lo || not p) (breaches m k xs)) 0 && ltb (last_rank m k xs) 49151
        ≡ (leb lo k && leb 16385 k && leb k 49150 && p) && sound_from m k xs
    go more (inl l) p u = rw (lt-ltb k lo l, lt-leb lo k l)
        (ap (λ (b : Bool). b && ltb (last_rank m k xs) 49151) (some_left (breaches m k xs + 1) (omega arith)))
    go more (inr l) true (inl u) = rw (le-ltb k lo l, le-leb lo k l, le-leb 16385 k (omega (arith, f, l)), le-leb k 49150 (omega (arith, u)))
        (more (omega (arith, f, l)) u)
    go more (inr l) true (inr u) = rw (le-ltb k lo l, le-leb lo k l, le-leb 16385 k (omega (arith, f, l)), lt-leb k 49150 (omega (arith, u)))
        (beyond u (breaches m k xs) refl)
    go more (inr l) false u = rw (le-ltb k lo l, and-false (leb lo k && leb 16385 k && leb k 49150))
        (ap (λ (b : Bool). b && ltb (last_rank m k xs) 49151) (some_left (breaches m k xs + 1) (omega arith)))

-- from a rank below the range or from its first, the tests are the same
same_first : (k : ℕ) (x : Entry) → sound_rank k 0 x ≡ sound_rank k 16385 x
unfolding sound_rank
same_first k x = rw (le-leb 0 k (omega arith)) (twice (leb 16385 k))
  where
    twice : (b : Bool) → (true && b && leb k 49150) && plain_entry x ≡ (b && b && leb k 49150) && plain_entry x
    twice true = refl
    twice false = refl

from_range : (m : Timestamp) (xs : List Entry) → sound_from m 0 xs ≡ sound_from m 16385 xs
unfolding sound_from
from_range m [] = refl
from_range m (x ∷ xs) = ap (λ (b : Bool). b && sound_from m (rank_in m x) xs) (same_first (rank_in m x) x)

module _ (b : CommandBuffer) {xs : List Entry} {i lo n : ℕ} (few : b.len ≤ 64) (hx : xs ≡ held b) (t : Tested b.timestamp xs i lo n) (all : length xs ≤ i)
  where
    counts : n ≡ breaches b.timestamp 16385 (held b)
    counts = omega (arith, ap (breaches b.timestamp lo) (drop_of_length-le xs all), t.count, ap (breaches b.timestamp 16385) hx)

    lasts : lo ≡ last_rank b.timestamp 16385 (held b)
    lasts = sym (ap (last_rank b.timestamp lo) (drop_of_length-le xs all)) ∙ t.last ∙ ap (last_rank b.timestamp 16385) hx

    sound_is : eqb n 0 && ltb lo 49151 ≡ sound_buffer b
    sound_is =
        rw (counts, lasts)
        (range_is b.timestamp 16385 (held b) (omega arith) (omega arith) ∙ sym (from_range b.timestamp (held b))
        ∙ sym (ap (λ (c : Bool). c && sound_from b.timestamp 0 (held b)) (le-leb b.len 64 few)) ∙ sym (buffer_is b))

    -- none breaks a rule
    pub sound_none : n ≡ 0 → ltb lo 49151 ≡ sound_buffer b
    sound_none e = sym (ap (λ (k : ℕ). eqb k 0 && ltb lo 49151) e) ∙ sound_is

    -- some do
    pub sound_some : (n ≡ 0 → ⊥) → eqb n 0 ≡ sound_buffer b
    sound_some e = ne_eqb n 0 e ∙ sym (ap (λ (c : Bool). c && ltb lo 49151) (ne_eqb n 0 e)) ∙ sound_is
