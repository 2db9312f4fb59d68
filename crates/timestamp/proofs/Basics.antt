-- Small facts about tests on numbers that the other modules share. Assumes nothing.
use Rattle.std.proofs.Common.{◌≡◌, ℕ, ◌+◌, ◌<◌, ◌≤◌, Bool, true, false, not, ◌&&◌, ◌||◌, T, eqb, ltb, ◌⊎◌, sym, refl, subst, inl, inr, arith, ltb→lt}
use Rattle.std.proofs.Common.{nltb→le, ltb-false, ltb-true, eqb-true}

-- a < b, or b ≤ a
pub split : (a b : ℕ) → (a < b) ⊎ (b ≤ a)
split a b = go (ltb a b) (ltb→lt a b) (nltb→le a b)
  where
    go : (t : Bool) → (T t → a < b) → (T (not t) → b ≤ a) → (a < b) ⊎ (b ≤ a)
    go true f g = inl (f tt)
    go false f g = inr (g tt)

-- a test that is false is not true
pub not_true : {X : Type 0} → false ≡ true → X
not_true p = absurd (subst T (sym p) tt)

-- a test that is true is not false
pub not_false : {X : Type 0} → true ≡ false → X
not_false p = absurd (subst T p tt)

-- a test that is true holds
pub holds_true : (b : Bool) → b ≡ true → T b
holds_true b p = subst T (sym p) tt

-- The comparison `le` of two floats with one sign is `ltb a b || (e && t)`, where e says that a and b are equal: where it is true, a ≤ b
pub le_true : {a b : ℕ} (e t : Bool) → (e ≡ true → a ≡ b) → ltb a b || (e && t) ≡ true → a ≤ b
le_true {a} {b} e t g h = go (ltb a b) e (ltb-true a b) g h
  where
    go : (x y : Bool) → (x ≡ true → a < b) → (y ≡ true → a ≡ b) → x || (y && t) ≡ true → a ≤ b
    go true y f g p = omega (arith, f refl)
    go false true f g p = omega (arith, g refl)
    go false false f g p = not_true p

-- and where it is false, b < a
pub le_false : {a b : ℕ} (e : Bool) → (e ≡ false → a ≡ b → ⊥) → ltb a b || (e && true) ≡ false → b < a
le_false {a} {b} e g h = go (ltb a b) e (ltb-false a b) g h
  where
    go : (x y : Bool) → (x ≡ false → b ≤ a) → (y ≡ false → a ≡ b → ⊥) → x || (y && true) ≡ false → b < a
    go true y f g p = not_false p
    go false true f g p = not_false p
    go false false f g p = omega (arith, f refl, g refl)

-- of a positive and a negative value, one of them no zero, the first is not ≤ the second
pub signs_apart : (a b : ℕ) → 0 < a + b → eqb a b && (false || eqb a 0) ≡ true → ⊥
signs_apart a b h p = go (eqb a b) (eqb a 0) (eqb-true a b) (eqb-true a 0) p
  where
    go : (x y : Bool) → (x ≡ true → a ≡ b) → (y ≡ true → a ≡ 0) → x && (false || y) ≡ true → ⊥
    go true true f g p = omega (arith, f refl, g refl)
    go true false f g p = not_true p
    go false y f g p = not_true p
