-- What each operation leaves in a buffer, and the ledger: nothing is lost and nothing is counted twice. Assumes nothing.
use mathlib.Core.Path.{◌≡◌, refl, sym, ap}
use mathlib.Core.List.{List, [], ◌∷◌}
use mathlib.Core.Bool.{Bool, true, false, not}
use Prim.Native.Nat.{ℕ, ◌+◌, ◌≤◌, ◌<◌}
use native.Mathlib.Omega.{arith}
use lib.Dec.{ltb}
use lib.ListN.{length, length-append}
use borrow.Author.Tests.{ltb-true, ltb-false}
use Rattle.timestamp.specs.declared.Timestamp.{Timestamp}
use Rattle.command.specs.Entries.{Entry}
use Rattle.command.specs.declared.CommandBuffer.{CommandBuffer}
use Rattle.command.specs.declared.Outcome.TheVariants.{Taken, OutOfRange, Full}
use Rattle.command.specs.Lists.{filter_b}
use Rattle.command.specs.Buffer.{held, laid, in_range_of, due_of, later_than, placed_of, inserted_of, taken_by, leaving, around, dropped_of, moved_of, taken_of}
use Rattle.command.specs.Buffer.{rest_of, emptied_of}
use Rattle.command.proofs.Lists.{filter-ledger, filter_none, filter_none_left, filter_short}
use Rattle.command.proofs.Holding.{held_laid, stamp_laid, len_laid, held_len, held_leaving, stamp_leaving, leaving_none}

-- ---- counts

-- a buffer of whose entries some go counts at most as many as before
leaving_len : (gone left : List Entry) (b : CommandBuffer) (n : ℕ) → b.len ≤ n → length left ≤ n → (leaving gone left b).len ≤ n
unfolding leaving
leaving_len [] left b n h k = h
leaving_len (x ∷ gone) left b n h k = rw (len_laid left b.timestamp) k

-- ---- an insertion

-- an entry that takes its place makes one more
pub placed_length : (m : Timestamp) (e : Entry) (xs : List Entry) → length (placed_of m e xs) ≡ length xs + 1
unfolding placed_of
placed_length m e xs = simp length-append (omega (arith, filter-ledger (later_than m e) xs))

-- the three ways of an insertion
pub data Ways (b : CommandBuffer) (e : Entry) : Type 0 where
  is_out : in_range_of b.timestamp e ≡ false → inserted_of b e ≡ record { outcome = OutOfRange; buffer = b } → Ways b e
  is_full : in_range_of b.timestamp e ≡ true → 64 ≤ length (held b) → inserted_of b e ≡ record { outcome = Full; buffer = b } → Ways b e
  is_taken : in_range_of b.timestamp e ≡ true → length (held b) < 64
      → inserted_of b e ≡ record { outcome = Taken; buffer = laid (placed_of b.timestamp e (held b)) b.timestamp } → Ways b e

pub insertion_ways : (b : CommandBuffer) (e : Entry) → Ways b e
unfolding inserted_of
insertion_ways b e = go (in_range_of b.timestamp e) (ltb (length (held b)) 64) refl refl
  where
    go : (u v : Bool) → in_range_of b.timestamp e ≡ u → ltb (length (held b)) 64 ≡ v → Ways b e
    go false v p q = is_out p (rw p)
    go true false p q = is_full p (ltb-false (length (held b)) 64 q) (rw (p, q))
    go true true p q = is_taken p (ltb-true (length (held b)) 64 q) (rw (p, q))

-- held after an insertion is held before it, and one more where the entry is taken
pub inserted_ledger : (b : CommandBuffer) (e : Entry) → length (held (inserted_of b e).buffer) ≡ length (held b) + taken_by (inserted_of b e).outcome
inserted_ledger b e = go (insertion_ways b e)
  where
    go : Ways b e → length (held (inserted_of b e).buffer) ≡ length (held b) + taken_by (inserted_of b e).outcome
    go (is_out h q) = rw q (omega arith)
    go (is_full h f q) = rw q (omega arith)
    go (is_taken h f q) = rw (q, held_laid) (placed_length b.timestamp e (held b))

pub inserted_stamp : (b : CommandBuffer) (e : Entry) → (inserted_of b e).buffer.timestamp ≡ b.timestamp
inserted_stamp b e = go (insertion_ways b e)
  where
    go : Ways b e → (inserted_of b e).buffer.timestamp ≡ b.timestamp
    go (is_out h q) = rw q
    go (is_full h f q) = rw q
    go (is_taken h f q) = rw q (stamp_laid (placed_of b.timestamp e (held b)) b.timestamp)

-- what is held after an insertion is at most 64 where it was so before
pub inserted_few : (b : CommandBuffer) (e : Entry) → length (held b) ≤ 64 → length (held (inserted_of b e).buffer) ≤ 64
inserted_few b e h = go (insertion_ways b e)
  where
    go : Ways b e → length (held (inserted_of b e).buffer) ≤ 64
    go (is_out i q) = rw q h
    go (is_full i f q) = rw q h
    go (is_taken i f q) = rw (q, held_laid) (omega (arith, placed_length b.timestamp e (held b)))

-- ---- a move of the midpoint

pub moved_held : (b : CommandBuffer) (t : Timestamp) → held (moved_of b t).buffer ≡ filter_b (in_range_of t) (held b)
unfolding moved_of dropped_of
moved_held b t = held_leaving (dropped_of b t) (filter_b (in_range_of t) (held b)) (around t b) (λ h. sym (filter_none_left (in_range_of t) (held b) h))

pub moved_stamp : (b : CommandBuffer) (t : Timestamp) → (moved_of b t).buffer.timestamp ≡ t
unfolding moved_of
moved_stamp b t = stamp_leaving (dropped_of b t) (filter_b (in_range_of t) (held b)) (around t b)

-- its count stays within a bound
pub moved_len : (b : CommandBuffer) (t : Timestamp) {n : ℕ} → b.len ≤ n → (moved_of b t).buffer.len ≤ n
unfolding moved_of
moved_len b t {n} h = leaving_len (dropped_of b t) (filter_b (in_range_of t) (held b)) (around t b) n h
    (omega (arith, filter_short (in_range_of t) (held b), held_len b))

-- held before a move is what it drops and what is held after it
pub moved_ledger : (b : CommandBuffer) (t : Timestamp) → length (held b) ≡ (moved_of b t).dropped + length (held (moved_of b t).buffer)
unfolding moved_of dropped_of
moved_ledger b t = omega (arith, ap length (moved_held b t), filter-ledger (in_range_of t) (held b))

-- where nothing is dropped only the midpoint changes
pub moved_lossless : (b : CommandBuffer) (t : Timestamp) → (moved_of b t).dropped ≡ 0 → (moved_of b t).buffer ≡ around t b
unfolding moved_of
moved_lossless b t h = sym (leaving_none (dropped_of b t) (filter_b (in_range_of t) (held b)) (around t b) h)

-- ---- a drain

pub rest_held : (b : CommandBuffer) (s : Timestamp) → held (rest_of b s) ≡ filter_b (λ e. not (due_of s e)) (held b)
unfolding rest_of taken_of
rest_held b s = held_leaving (taken_of b s) (filter_b (λ e. not (due_of s e)) (held b)) b (λ h. sym (filter_none (due_of s) (held b) h))

pub rest_stamp : (b : CommandBuffer) (s : Timestamp) → (rest_of b s).timestamp ≡ b.timestamp
unfolding rest_of
rest_stamp b s = stamp_leaving (taken_of b s) (filter_b (λ e. not (due_of s e)) (held b)) b

-- its count stays within a bound
pub rest_len : (b : CommandBuffer) (s : Timestamp) {n : ℕ} → b.len ≤ n → (rest_of b s).len ≤ n
unfolding rest_of
rest_len b s {n} h = leaving_len (taken_of b s) (filter_b (λ e. not (due_of s e)) (held b)) b n h
    (omega (arith, filter_short (λ e. not (due_of s e)) (held b), held_len b))

-- held before a drain is what it takes and what is held after it
pub drained_ledger : (b : CommandBuffer) (s : Timestamp) → length (held b) ≡ length (taken_of b s) + length (held (rest_of b s))
unfolding taken_of
drained_ledger b s = omega (arith, ap length (rest_held b s), filter-ledger (due_of s) (held b))

-- it takes no more than is held
pub taken_short : (b : CommandBuffer) (s : Timestamp) → length (taken_of b s) ≤ length (held b)
unfolding taken_of
taken_short b s = filter_short (due_of s) (held b)

-- where nothing is taken the buffer stays as it is
pub drained_lossless : (b : CommandBuffer) (s : Timestamp) → length (taken_of b s) ≡ 0 → rest_of b s ≡ b
unfolding rest_of
drained_lossless b s h = sym (leaving_none (taken_of b s) (filter_b (λ e. not (due_of s e)) (held b)) b h)

-- ---- a drain of everything

pub emptied_held : (b : CommandBuffer) → held (emptied_of b) ≡ []
unfolding emptied_of
emptied_held b = held_leaving (held b) [] b (λ h. h)

pub emptied_stamp : (b : CommandBuffer) → (emptied_of b).timestamp ≡ b.timestamp
unfolding emptied_of
emptied_stamp b = stamp_leaving (held b) [] b

-- its count stays within a bound
pub emptied_len : (b : CommandBuffer) {n : ℕ} → b.len ≤ n → (emptied_of b).len ≤ n
unfolding emptied_of
emptied_len b {n} h = leaving_len (held b) [] b n h (omega arith)
