-- Ranks stand in the order of signed differences, so the tests of the definitions are spans of ranks. Assumes nothing.
use mathlib.Core.Path.{◌≡◌, refl, sym, ap, ◌∙◌}
use mathlib.Core.Logic.{inl, inr}
use mathlib.Core.Bool.{Bool, true, false, not, ◌&&◌}
use Prim.Native.Nat.{ℕ, ◌+◌, ◌-◌, ◌≤◌, ◌<◌}
use native.Mathlib.Omega.{arith}
use lib.Dec.{leb, ltb}
use lib.IntN.{ℤ, pos, negsuc}
use lib.Signed.{le_z}
use borrow.Author.Tests.{le-leb, lt-leb, lt-ltb, le-ltb}
use Rattle.timestamp.specs.declared.Timestamp.{Timestamp}
use Rattle.timestamp.specs.Timestamps.{difference_of, sum_of, signed_of, in_range}
use Rattle.timestamp.proofs.Basics.{split}
use Rattle.timestamp.proofs.Signed.{signed_low, signed_high}
use Rattle.command.specs.Entries.{Entry, stamp_in}
use Rattle.command.specs.Buffer.{in_range_of, due_of, later_than}
use Rattle.command.specs.Ranks.{rank_of, spanned, rank_within}

-- the rank of an entry around m
abbrev pub rank_in : Timestamp → Entry → ℕ
rank_in m e = rank_of m.0 (stamp_in e)

pub rank_lt : (m s : ℕ) → rank_of m s < 65536
unfolding rank_of
rank_lt m s = omega arith

-- ---- order

-- two tests of order that hold together
same_leb : (a b c d : ℕ) → (a ≤ b → c ≤ d) → (b < a → d < c) → leb a b ≡ leb c d
same_leb a b c d f g = elim (split b a) [
  | inl l ↦ lt-leb a b l ∙ sym (lt-leb c d (g l))
  | inr l ↦ le-leb a b l ∙ sym (le-leb c d (f l))
]

-- the order of signed numbers of 16 bits is the order of the numbers shifted by 32,768
pub signed_order : (a b : ℕ) → a < 65536 → b < 65536 → le_z (signed_of a) (signed_of b) ≡ leb (sum_of a 32768) (sum_of b 32768)
signed_order a b A B = elim (split a 32768) [
  | inl la ↦ elim (split b 32768) [
    | inl lb ↦ simp (signed_low a la, signed_low b lb) (same_leb a b (sum_of a 32768) (sum_of b 32768) (λ h. omega arith) (λ h. omega arith))
    | inr hb ↦ simp (signed_low a la, signed_high b hb) (sym (lt-leb (sum_of a 32768) (sum_of b 32768) (omega arith)))
  ]
  | inr ha ↦ elim (split b 32768) [
    | inl lb ↦ simp (signed_high a ha, signed_low b lb) (sym (le-leb (sum_of a 32768) (sum_of b 32768) (omega arith)))
    | inr hb ↦ simp (signed_high a ha, signed_high b hb) (same_leb (65535 - b) (65535 - a) (sum_of a 32768) (sum_of b 32768) (λ h. omega arith)
        (λ h. omega arith))
  ]
]

difference_lt : (s m : ℕ) → difference_of s m < 65536
difference_lt s m = omega arith

-- in range, by the rank
pub in_range_rank : (m s : ℕ) → in_range m s ≡ leb 16385 (rank_of m s) && leb (rank_of m s) 49150
unfolding in_range rank_of
in_range_rank m s =
    let d = difference_of s m in
    let low : signed_of 49153 ≡ negsuc 16382 = signed_high 49153 (omega arith) in
    let high : signed_of 16382 ≡ pos 16382 = signed_low 16382 (omega arith) in
    let a : le_z (negsuc 16382) (signed_of d) ≡ leb 16385 (sum_of d 32768) = ap (λ (z : ℤ). le_z z (signed_of d)) (sym low)
    ∙ signed_order 49153 d (omega arith) (difference_lt s m) in
    let b : le_z (signed_of d) (pos 16382) ≡ leb (sum_of d 32768) 49150 = ap (λ (z : ℤ). le_z (signed_of d) z) (sym high)
    ∙ signed_order d 16382 (difference_lt s m) (omega arith) in
    ap (λ (u : Bool). u && le_z (signed_of d) (pos 16382)) a ∙ ap (λ (u : Bool). leb 16385 (sum_of d 32768) && u) b

-- due, by the rank
pub due_rank : (s : Timestamp) (e : Entry) → due_of s e ≡ leb (rank_in s e) 32768
unfolding due_of rank_of
due_rank s e =
    let d = difference_of (stamp_in e) s.0 in
    let none : signed_of 0 ≡ pos 0 = signed_low 0 (omega arith) in
    ap (λ (z : ℤ). le_z (signed_of d) z) (sym none) ∙ signed_order d 0 (difference_lt (stamp_in e) s.0) (omega arith)

-- later, by the rank
pub later_rank : (m : Timestamp) (e x : Entry) → later_than m e x ≡ not (leb (rank_in m x) (rank_in m e))
unfolding later_than rank_of
later_rank m e x = ap not (signed_order (difference_of (stamp_in x) m.0) (difference_of (stamp_in e) m.0) (difference_lt (stamp_in x) m.0)
    (difference_lt (stamp_in e) m.0))

-- ---- spans

-- below n + 1 is at most n
below_next : (k n hi : ℕ) → hi ≡ n + 1 → ltb k hi ≡ leb k n
below_next k n hi e = elim (split n k) [
  | inl l ↦ le-ltb k hi (omega arith) ∙ sym (lt-leb k n l)
  | inr l ↦ lt-ltb k hi (omega arith) ∙ sym (le-leb k n l)
]

-- the accepted range
pub span_in_range : (m : Timestamp) (lo hi : ℕ) → lo ≡ 16385 → hi ≡ 49151 → (e : Entry) → rank_within m lo hi e ≡ in_range_of m e
unfolding spanned in_range_of
span_in_range m lo hi el eh e = rw (el, below_next (rank_in m e) 49150 hi eh) (sym (in_range_rank m.0 (stamp_in e)))

from_zero : (k lo : ℕ) → lo ≡ 0 → leb lo k ≡ true
from_zero k lo e = le-leb lo k (omega arith)

-- what a drain takes
pub span_due : (s : Timestamp) (lo hi : ℕ) → lo ≡ 0 → hi ≡ 32769 → (e : Entry) → rank_within s lo hi e ≡ due_of s e
unfolding spanned
span_due s lo hi el eh e = rw (from_zero (rank_in s e) lo el, below_next (rank_in s e) 32768 hi eh) (sym (due_rank s e))

-- up to a rank, not later
pub span_up_to : (m : Timestamp) (x : Entry) (lo hi : ℕ) → lo ≡ 0 → hi ≡ rank_in m x + 1 → (e : Entry) → rank_within m lo hi e ≡ not (later_than m x e)
unfolding spanned
span_up_to m x lo hi el eh e = rw (from_zero (rank_in m e) lo el, below_next (rank_in m e) (rank_in m x) hi eh, later_rank m x e)
    (not_not (leb (rank_in m e) (rank_in m x)))
  where
    not_not : (t : Bool) → t ≡ not (not t)
    not_not true = refl
    not_not false = refl

-- from a rank on is what is not below it
pub span_from : (m : Timestamp) (lo hi : ℕ) → hi ≡ 65536 → (e : Entry) → rank_within m lo hi e ≡ not (rank_within m 0 lo e)
unfolding spanned
span_from m lo hi eh e =
    let k = rank_in m e in
    let top : ltb k hi ≡ true = lt-ltb k hi (omega (arith, rank_lt m.0 (stamp_in e))) in
    elim (split k lo) [
      | inl l ↦ simp (lt-leb lo k l, lt-ltb k lo l, le-leb 0 k (omega arith))
      | inr l ↦ simp (le-leb lo k l, le-ltb k lo l, le-leb 0 k (omega arith), top)
    ]

-- every rank
pub span_all : (m : Timestamp) (lo hi : ℕ) → lo ≡ 0 → hi ≡ 65536 → (e : Entry) → rank_within m lo hi e ≡ true
unfolding spanned
span_all m lo hi el eh e = simp (from_zero (rank_in m e) lo el, lt-ltb (rank_in m e) hi (omega (arith, rank_lt m.0 (stamp_in e))))
