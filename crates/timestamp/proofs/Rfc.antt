-- RFC 1982 and the stamps of document 01: where the RFC defines a sum or a comparison, ours is the same, and ours goes further exactly on the pairs 2 ^ 15
-- apart. Assumes nothing.
use Rattle.std.proofs.Common.{◌≡◌, ℕ, ◌+◌, ◌-◌, ◌%◌, ◌<◌, Bool, true, false, cond, leb, sym, refl, ap, ◌∙◌, inl, inr, arith, le-ltb, lt-ltb, eq-eqb, ne_eqb}
use Rattle.std.proofs.Common.{le-leb}
use Rattle.std.specs.declared.cmp.Ordering.{Ordering}
use Rattle.std.specs.declared.cmp.Ordering.TheVariants.{Less, Equal, Greater}
use Rattle.timestamp.specs.Rfc1982.{defined, undefined_sum, serial_sum, Comparison, equal, less, greater, undefined_order, serial_less, serial_greater}
use Rattle.timestamp.specs.Rfc1982.{compared}
use Rattle.timestamp.specs.Timestamps.{sum_of, difference_of, order_of}
use Rattle.timestamp.proofs.Basics.{split}
use Rattle.timestamp.proofs.Order.{order_equal, order_greater, order_less}

-- where section 3.1 defines a sum, ours is that sum
pub sum_agrees : (s n r : ℕ) → serial_sum s n ≡ defined r → sum_of s n ≡ r
unfolding serial_sum
sum_agrees s n r = go (leb n 32767)
  where
    go : (t : Bool) → cond t (defined ((s + n) % 65536)) undefined_sum ≡ defined r → (s + n) % 65536 ≡ r
    go true h = cc
    go false h = let z : ◌≡◌ {A = ℕ} 0 1 = cc in absurd (omega arith)

-- section 3.1 defines the sum with every number up to 32,767
pub sum-defined : (s n : ℕ) → n < 32768 → serial_sum s n ≡ defined (sum_of s n)
unfolding serial_sum
sum-defined s n h = simp (le-leb n 32767 (omega arith))

-- our order by section 3.2's comparison: the pairs that it leaves undefined are read as Less
abbrev pub as_order : Comparison → Ordering
as_order equal = Equal
as_order less = Less
as_order greater = Greater
as_order undefined_order = Less

-- stamps a and b
module _ {a b : ℕ} (A : a < 65536) (B : b < 65536) where
  -- section 3.2's less is a difference of 32,769 to 65,535
  pub compared_less : 32768 < difference_of a b → compared a b ≡ less
  unfolding compared serial_less serial_greater
  compared_less h = elim (split a b) [
    | inl l ↦ simp (ne_eqb a b (omega arith), lt-ltb a b l, lt-ltb (b - a) 32768 (omega arith))
    | inr g ↦ simp (ne_eqb a b (omega arith), le-ltb a b g, lt-ltb b a (omega arith), lt-ltb 32768 (a - b) (omega arith))
  ]

  -- section 3.2's greater is a difference of 1 to 32,767
  pub compared_greater : 0 < difference_of a b → difference_of a b < 32768 → compared a b ≡ greater
  unfolding compared serial_less serial_greater
  compared_greater n h = elim (split a b) [
    | inl l ↦ simp (ne_eqb a b (omega arith), lt-ltb a b l, le-ltb (b - a) 32768 (omega arith), le-ltb b a (omega arith), lt-ltb 32768 (b - a) (omega arith))
    | inr g ↦ simp (ne_eqb a b (omega arith), le-ltb a b g, lt-ltb b a (omega arith), le-ltb 32768 (a - b) (omega arith), lt-ltb (a - b) 32768 (omega arith))
  ]

  -- section 3.2's equal is no difference
  pub compared_equal : difference_of a b ≡ 0 → compared a b ≡ equal
  unfolding compared
  compared_equal z = simp (eq-eqb a b (omega arith))

  -- section 3.2 leaves a difference of 32,768 undefined
  pub compared_undefined : difference_of a b ≡ 32768 → compared a b ≡ undefined_order
  unfolding compared serial_less serial_greater
  compared_undefined h = elim (split a b) [
    | inl l ↦ simp (ne_eqb a b (omega arith), lt-ltb a b l, le-ltb (b - a) 32768 (omega arith), le-ltb b a (omega arith), le-ltb 32768 (b - a) (omega arith))
    | inr g ↦ simp (ne_eqb a b (omega arith), le-ltb a b g, lt-ltb b a (omega arith), le-ltb 32768 (a - b) (omega arith), le-ltb (a - b) 32768 (omega arith))
  ]

  -- a difference is one of the four
  cases : {X : Type 0} → (difference_of a b ≡ 0 → X) → (0 < difference_of a b → difference_of a b < 32768 → X) → (difference_of a b ≡ 32768 → X)
      → (32768 < difference_of a b → X) → X
  cases equals after apart before = elim (split 0 (difference_of a b)) [
    | inr z ↦ equals (omega arith)
    | inl n ↦ elim (split (difference_of a b) 32768) [
      | inl l ↦ after n l
      | inr g ↦ elim (split 32768 (difference_of a b)) [ inl m ↦ before m | inr k ↦ apart (omega arith) ]
    ]
  ]

  back : (difference_of a b + b) % 65536 ≡ a
  back = omega arith

  D : difference_of a b < 65536
  D = omega arith

  -- our order is section 3.2's comparison wherever that is defined, and Less where it is not
  pub order_reads : order_of a b ≡ as_order (compared a b)
  order_reads = cases
      (λ z. order_equal (difference_of a b) A B D back z ∙ sym (ap as_order (compared_equal z)))
      (λ n l. order_greater (difference_of a b) A B D back n l ∙ sym (ap as_order (compared_greater n l)))
      (λ z. order_less (difference_of a b) A B D back (omega arith) ∙ sym (ap as_order (compared_undefined z)))
      (λ l. order_less (difference_of a b) A B D back (omega arith) ∙ sym (ap as_order (compared_less l)))

  -- where section 3.2 says less, our order is Less
  pub less_agrees : compared a b ≡ less → order_of a b ≡ Less
  less_agrees h = order_reads ∙ ap as_order h

  -- where section 3.2 says greater, our order is Greater
  pub greater_agrees : compared a b ≡ greater → order_of a b ≡ Greater
  greater_agrees h = order_reads ∙ ap as_order h

  -- section 3.2 leaves exactly the pairs 2 ^ 15 apart undefined: these, and no others, our order decides beyond the RFC
  pub undefined_apart : compared a b ≡ undefined_order → difference_of a b ≡ 32768
  undefined_apart h = cases
      (λ z. never (sym (compared_equal z) ∙ h) refl)
      (λ n l. never (sym (compared_greater n l) ∙ h) refl)
      (λ z. z)
      (λ l. never (sym (compared_less l) ∙ h) refl)
    where
      number : Comparison → ℕ
      number equal = 0
      number less = 0
      number greater = 0
      number undefined_order = 1

      never : {c : Comparison} → c ≡ undefined_order → number c ≡ 0 → difference_of a b ≡ 32768
      never p z = absurd (omega (arith, ap number p, z))
