-- The library's size of a number, whose zero has the sign plus, is the definition's to every comparison. Assumes nothing.
use Rattle.std.proofs.Common.{◌≡◌, ℕ, ◌+◌, ◌*◌, ◌<◌, ◌≤◌, Bool, true, false, cond, ◌&&◌, ◌||◌, ltb, eqb, ℤ, sym, refl, ap, ◌∙◌}
use Rattle.std.proofs.Common.{add-zero, arith, ltb-true, ltb-false}
use borrow.Author.Tests.{le-ltb}
use lib.Ieee.{Float, nan, inf, fin, up, down, neg, lt, le, eq}
use Rattle.std.specs.Float.{float_with_sign}
use Rattle.timestamp.specs.Floats.{abs_of}

-- ---- no comparison tells -0.0 from +0.0; z is 0 in another unit

module _ (y z : ℕ) (e : z ≡ 0) where
  above_same : ltb y z ≡ false
  above_same = le-ltb y z (omega (arith, e))

  sum_same : ltb 0 (y + z) ≡ ltb z y
  sum_same = rw (e, add-zero y) refl

  turned_same : ltb z y ≡ ltb 0 (z + y)
  turned_same = rw e (ap (ltb 0) (omega arith))

  plus_same : ltb y z || (eqb y z && true) ≡ eqb y z && (false || eqb y 0)
  plus_same = rw e (rw (le-ltb y 0 (omega arith)) (go (eqb y 0)))
    where
      go : (b : Bool) → false || (b && true) ≡ b && (false || b)
      go true = refl
      go false = refl

  minus_same : ltb 0 (y + z) || (eqb y z && (false || eqb y 0)) ≡ ltb z y || (eqb y z && true)
  minus_same = rw e (rw add-zero (go (ltb 0 y) (eqb y 0)))
    where
      go : (a b : Bool) → a || (b && (false || b)) ≡ a || (b && true)
      go true b = refl
      go false true = refl
      go false false = refl

module _ (m : ℕ) (e : ℤ) (z : m * up e ≡ 0) where
  none : (k : ℤ) → m * up e * down k ≡ 0
  none k = ap (λ (i : ℕ). i * down k) z ∙ omega arith

  -- above a number, below it, and at least it
  above_alike : (x : Float) → lt x (fin false m e) ≡ lt x (fin true m e)
  unfolding lt
  above_alike nan = refl
  above_alike (inf s) = refl
  above_alike (fin false n k) = above_same (n * up k * down e) (m * up e * down k) (none k)
  above_alike (fin true n k) = sum_same (n * up k * down e) (m * up e * down k) (none k)

  below_alike : (x : Float) → lt (fin false m e) x ≡ lt (fin true m e) x
  unfolding lt
  below_alike nan = refl
  below_alike (inf s) = refl
  below_alike (fin false n k) = turned_same (n * up k * down e) (m * up e * down k) (none k)
  below_alike (fin true n k) = sym (above_same (n * up k * down e) (m * up e * down k) (none k))

  least_alike : (x : Float) → le x (fin false m e) ≡ le x (fin true m e)
  unfolding le lt eq
  least_alike nan = refl
  least_alike (inf s) = refl
  least_alike (fin false n k) = plus_same (n * up k * down e) (m * up e * down k) (none k)
  least_alike (fin true n k) = minus_same (n * up k * down e) (m * up e * down k) (none k)

-- ---- the size

-- a test that does not tell the zeros apart takes the two sizes for one
sized : (f : Float → Bool) → ((m : ℕ) (e : ℤ) → m * up e ≡ 0 → f (fin false m e) ≡ f (fin true m e)) → (d : Float)
    → f (float_with_sign false d) ≡ f (abs_of d)
unfolding float_with_sign lt neg
sized f alike nan = refl
sized f alike (inf true) = refl
sized f alike (inf false) = refl
sized f alike (fin false m e) = go (ltb (m * up e * 1) (0 * 1 * down e)) (ltb-true (m * up e * 1) (0 * 1 * down e))
  where
    go : (b : Bool) → (b ≡ true → m * up e * 1 < 0 * 1 * down e) → f (fin false m e) ≡ f (cond b (fin true m e) (fin false m e))
    go true h = absurd (omega (arith, h refl))
    go false h = refl
sized f alike (fin true m e) = go (ltb 0 (m * up e * 1 + 0 * 1 * down e)) (ltb-false 0 (m * up e * 1 + 0 * 1 * down e))
  where
    go : (b : Bool) → (b ≡ false → m * up e * 1 + 0 * 1 * down e ≤ 0) → f (fin false m e) ≡ f (cond b (fin false m e) (fin true m e))
    go true h = refl
    go false h = alike m e (omega (arith, h refl))

-- above a number, below it, and at least it
pub size_above : (x d : Float) → lt x (float_with_sign false d) ≡ lt x (abs_of d)
size_above x = sized (λ y. lt x y) (λ m e z. above_alike m e z x)

pub size_below : (x d : Float) → lt (float_with_sign false d) x ≡ lt (abs_of d) x
size_below x = sized (λ y. lt y x) (λ m e z. below_alike m e z x)

pub size_least : (x d : Float) → le x (float_with_sign false d) ≡ le x (abs_of d)
size_least x = sized (λ y. le x y) (λ m e z. least_alike m e z x)
