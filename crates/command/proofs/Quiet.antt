-- For how many steps a buffer stays as it is: what its loop keeps, and what the number says of the buffer's steps. Assumes nothing.
use mathlib.Core.Path.{◌≡◌, refl, sym, ◌∙◌}
use mathlib.Core.Logic.{inl, inr, ◌⊎◌}
use mathlib.Core.Bool.{true, not}
use mathlib.Core.List.{List, [], ◌∷◌, ◌++◌}
use Prim.Native.Nat.{ℕ, zero, suc, ◌+◌, ◌≤◌, ◌<◌, min}
use native.Mathlib.Numerals.{add-one}
use native.Mathlib.Omega.{arith}
use lib.ListN.{length, take, get_or}
use lib.Seq.{take-suc}
use borrow.Author.Tests.{le-leb, lt-leb, lt-ltb, eq-eqb}
use Rattle.timestamp.specs.declared.Timestamp.{Timestamp}
use Rattle.timestamp.specs.Timestamps.{difference_of, sum_of}
use Rattle.timestamp.proofs.Basics.{split}
use Rattle.command.specs.Entries.{Entry, stamp_in}
use Rattle.command.specs.declared.CommandBuffer.{CommandBuffer}
use Rattle.command.specs.Lists.{filter_b}
use Rattle.command.specs.Buffer.{held, around}
use Rattle.command.specs.Ranks.{rank_of, spanned, rank_within, waits_of, quiet_before, quiet_among, quiet_steps_of}
use Rattle.command.proofs.Ranks.{rank_in}
use Rattle.command.proofs.Waiting.{waits_counted}

-- ---- one entry

-- how many frames an entry is after a stamp
abbrev ahead : ℕ → Entry → ℕ
ahead n e = difference_of (stamp_in e) n

-- near enough it counts, and else it is none
quiet_ways : (n : ℕ) (e : Entry) → ((ahead n e ≤ 16382) × (quiet_before n e ≡ ahead n e)) ⊎ ((16383 ≤ ahead n e) × (quiet_before n e ≡ 0))
unfolding quiet_before
quiet_ways n e = elim (split (ahead n e) 16383) [
  | inl l ↦ inl (omega arith, rw (le-leb (ahead n e) 16382 (omega arith)) refl)
  | inr l ↦ inr (l, rw (lt-leb (ahead n e) 16382 (omega arith)) refl)
]

quiet_few : (n : ℕ) (e : Entry) → quiet_before n e ≤ 16382
quiet_few n e = elim (quiet_ways n e) [
  | inl w ↦ omega (arith, w.0, w.1)
  | inr w ↦ omega (arith, w.1)
]

-- one that waits is not due, and in range
within : (n : Timestamp) (e : Entry) → 1 ≤ ahead n.0 e → ahead n.0 e ≤ 16382 → rank_within n 32769 49151 e ≡ true
unfolding spanned rank_of
within n e f g = rw (le-leb 32769 (rank_in n e) (omega arith), lt-ltb (rank_in n e) 49151 (omega arith)) refl

quiet_within : (n : Timestamp) (e : Entry) → 1 ≤ quiet_before n.0 e → rank_within n 32769 49151 e ≡ true
quiet_within n e h = elim (quiet_ways n.0 e) [
  | inl w ↦ within n e (omega (arith, h, w.1)) w.0
  | inr w ↦ absurd (omega (arith, h, w.1))
]

-- a stamp on, it is one frame less
ahead_next : (a n : ℕ) → n < 65536 → 1 ≤ difference_of a n → difference_of a n ≡ difference_of a (sum_of n 1) + 1
ahead_next a n h f = omega arith

quiet_next : (n : ℕ) (e : Entry) → n < 65536 → 1 ≤ quiet_before n e → quiet_before n e ≡ quiet_before (sum_of n 1) e + 1
quiet_next n e l h = elim (quiet_ways n e) [
  | inl w ↦
      let next : ahead n e ≡ ahead (sum_of n 1) e + 1 = ahead_next (stamp_in e) n l (omega (arith, h, w.1)) in
      elim (quiet_ways (sum_of n 1) e) [
        | inl v ↦ omega (arith, w.1, v.1, next)
        | inr v ↦ absurd (omega (arith, w.0, v.0, next))
      ]
  | inr w ↦ absurd (omega (arith, h, w.1))
]

-- ---- the loop

-- of two lists, the less of theirs
quiet_append : (n : ℕ) (xs : List Entry) (e : Entry) → quiet_among n (xs ++ (e ∷ [])) ≡ min (quiet_among n xs) (quiet_before n e)
quiet_append n [] e = omega (arith, quiet_few n e)
quiet_append n (x ∷ xs) e = omega (arith, quiet_append n xs e)

-- one entry more
pub quiet_took : (n : ℕ) (xs : List Entry) (i : ℕ) (d : Entry) → i < length xs
    → quiet_among n (take (i + 1) xs) ≡ min (quiet_among n (take i xs)) (quiet_before n (get_or xs i d))
quiet_took n xs i d l = rw (add-one i, take-suc xs i d) (quiet_append n (take i xs) (get_or xs i d))

-- ---- the buffer

quiet_all : (n : Timestamp) (xs : List Entry) → 1 ≤ quiet_among n.0 xs → length (filter_b (λ e. not (rank_within n 32769 49151 e)) xs) ≡ 0
quiet_all n [] h = refl
quiet_all n (e ∷ xs) h = rw (quiet_within n e (omega (arith, h))) (quiet_all n xs (omega (arith, h)))

quiet_move : (n : ℕ) (xs : List Entry) → n < 65536 → 1 ≤ quiet_among n xs → quiet_among n xs ≤ quiet_among (sum_of n 1) xs + 1
quiet_move n [] l h = omega arith
quiet_move n (e ∷ xs) l h = omega (arith, quiet_next n e l (omega (arith, h)), quiet_move n xs l (omega (arith, h)))

module _ (b : CommandBuffer) {n : Timestamp} (hn : n.0 ≡ sum_of b.timestamp.0 1) (h : 1 ≤ quiet_steps_of b) where
  -- where it is not 0 the buffer waits for the next stamp
  pub quiet_waits : waits_of b n ≡ true
  unfolding quiet_steps_of
  quiet_waits = sym (waits_counted b n refl refl refl) ∙ eq-eqb _ _ (quiet_all n (held b) (rw hn h))

  -- and moved on to it, there is one step less
  pub quiet_on : quiet_steps_of b ≤ quiet_steps_of (around n b) + 1
  unfolding quiet_steps_of
  quiet_on = rw hn (quiet_move (sum_of b.timestamp.0 1) (held b) (omega arith) h)

-- the stamp after a buffer's, and the buffer moved on so many stamps, one after the other
abbrev after : CommandBuffer → Timestamp
after b = record { 0 = sum_of b.timestamp.0 1 }

abbrev moved_by : ℕ → CommandBuffer → CommandBuffer
moved_by zero b = b
moved_by (suc k) b = moved_by k (around (after b) b)

-- moved on by less than the number, it waits for the next stamp still
pub quiet_still : (k : ℕ) (b : CommandBuffer) → k < quiet_steps_of b → waits_of (moved_by k b) (after (moved_by k b)) ≡ true
quiet_still zero b h = quiet_waits b refl (omega (arith, h))
quiet_still (suc k) b h = quiet_still k (around (after b) b) (omega (arith, h, quiet_on b {n = after b} refl (omega (arith, h))))
