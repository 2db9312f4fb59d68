-- `sorted_of` gives the samples in order: a permutation of them in which each is at most every later one. And any other such permutation has equal samples, up
-- to the sign of a zero, in the same places. Assumes nothing.
use Rattle.std.proofs.Common.{◌≡◌, ℕ, ◌+◌, ◌<◌, Bool, true, false, cond, not, ◌&&◌, T, List, [], ◌∷◌, ◌++◌, sym, refl, ap, ◌∙◌, subst, append-nil, arith}
use mathlib.Core.List.Permᴰ
use lib.Ieee.{Float, lt, le}
use lib.Ieee.Fits.{and_l, and_r, and_i}
use lib.Ieee.Bits.{is_true}
use lib.Ieee.Scale.{finite}
use Rattle.float_laws.specs.Fractions.{val, Same}
use Rattle.float_laws.proofs.Value.{q_le_refl, le_of_val}
use Rattle.float_laws.proofs.Order.{float_le_trans, float_le_of_lt, float_le_of_not_lt}
use Rattle.mean.specs.Mean.{sample_inserted, sorted_onto, sorted_of}
use Rattle.mean.specs.Order.{All, AllFinite, AtMost, Ordered, Permutes}

-- ---- in order

-- what is at most y is at most all that y is at most
lower : (x y : Float) (ys : List Float) → T (le x y) → AtMost y ys → AtMost x ys
lower x y [] h a = tt
lower x y (z ∷ ys) h a = (float_le_trans x y z h a.0, lower x y ys h a.1)

at_most_inserted : (y x : Float) (ys : List Float) → T (le y x) → AtMost y ys → AtMost y (sample_inserted x ys)
unfolding sample_inserted
at_most_inserted y x [] h a = (h, tt)
at_most_inserted y x (z ∷ ys) h a = go (lt x z) (at_most_inserted y x ys h a.1)
  where
    go : (b : Bool) → AtMost y (sample_inserted x ys) → AtMost y (cond b (x ∷ z ∷ ys) (z ∷ sample_inserted x ys))
    go true r = (h, a)
    go false r = (a.0, r)

inserted_ordered : (x : Float) (ys : List Float) → T (finite x) → AllFinite ys → Ordered ys → Ordered (sample_inserted x ys)
unfolding sample_inserted
inserted_ordered x [] f a o = (tt, tt)
inserted_ordered x (y ∷ ys) f a o = go (lt x y) refl (inserted_ordered x ys f a.1 o.1)
  where
    go : (b : Bool) → lt x y ≡ b → Ordered (sample_inserted x ys) → Ordered (cond b (x ∷ y ∷ ys) (y ∷ sample_inserted x ys))
    go true e r = let h = float_le_of_lt x y f a.0 (subst T (sym e) tt) in ((h, lower x y ys h o.0), o)
    go false e r = (at_most_inserted y x ys (float_le_of_not_lt x y f a.0 (subst (λ (b : Bool). T (not b)) (sym e) tt)) o.0, r)

inserted_finite : (x : Float) (ys : List Float) → T (finite x) → AllFinite ys → AllFinite (sample_inserted x ys)
unfolding sample_inserted
inserted_finite x [] f a = (f, tt)
inserted_finite x (y ∷ ys) f a = go (lt x y) (inserted_finite x ys f a.1)
  where
    go : (b : Bool) → AllFinite (sample_inserted x ys) → AllFinite (cond b (x ∷ y ∷ ys) (y ∷ sample_inserted x ys))
    go true r = (f, a)
    go false r = (a.0, r)

onto_ordered : (ys xs : List Float) → AllFinite ys → AllFinite xs → Ordered ys → Ordered (sorted_onto ys xs)
unfolding sorted_onto
onto_ordered ys [] a b o = o
onto_ordered ys (x ∷ xs) a b o = onto_ordered (sample_inserted x ys) xs (inserted_finite x ys b.0 a) b.1 (inserted_ordered x ys b.0 a o)

-- the sorted samples are in order
pub sorted_ordered : (xs : List Float) → AllFinite xs → Ordered (sorted_of xs)
unfolding sorted_of
sorted_ordered xs a = onto_ordered [] xs tt a tt

-- ---- the same samples

inserted_permutes : (x : Float) (ys : List Float) → Permutes (x ∷ ys) (sample_inserted x ys)
unfolding sample_inserted
inserted_permutes x [] = Permᴰ.refl (x ∷ [])
inserted_permutes x (y ∷ ys) = go (lt x y) (inserted_permutes x ys)
  where
    go : (b : Bool) → Permutes (x ∷ ys) (sample_inserted x ys) → Permutes (x ∷ y ∷ ys) (cond b (x ∷ y ∷ ys) (y ∷ sample_inserted x ys))
    go true r = Permᴰ.refl (x ∷ y ∷ ys)
    go false r = Permᴰ.trans (Permᴰ.swap refl refl) (Permᴰ.cons refl r)

onto_permutes : (ys xs : List Float) → Permutes (xs ++ ys) (sorted_onto ys xs)
unfolding sorted_onto
onto_permutes ys [] = Permᴰ.refl ys
onto_permutes ys (x ∷ xs) =
    Permᴰ.trans (Permᴰ.symm (Permᴰ.middle x xs ys))
    (Permᴰ.trans (Permᴰ.append_left xs (inserted_permutes x ys)) (onto_permutes (sample_inserted x ys) xs))

-- the sorted samples are the samples
pub sorted_permutes : (xs : List Float) → Permutes xs (sorted_of xs)
unfolding sorted_of
sorted_permutes xs = subst (λ (l : List Float). Permutes l (sorted_onto [] xs)) (append-nil xs) (onto_permutes [] xs)

-- ---- one order, up to the sign of a zero

-- x and y compare equal
same : Float → Float → Bool
same x y = le x y && le y x

-- how many samples of the list compare equal to v
count : Float → List Float → ℕ
unfolding same
count v [] = 0
count v (x ∷ xs) = cond (same v x) 1 0 + count v xs

-- a permutation has as many
count_kept : (v : Float) {xs ys : List Float} → Permutes xs ys → count v xs ≡ count v ys
unfolding count
count_kept v Permᴰ.nil = refl
count_kept v (Permᴰ.cons {a = a} {b = b} {l₁ = l} {l₂ = k} e d) = ap (λ (z : Float). cond (same v z) 1 0 + count v l) e
    ∙ ap (λ (n : ℕ). cond (same v b) 1 0 + n) (count_kept v d)
count_kept v (Permᴰ.swap {a = a} {b = b} {a' = c} {b' = d} {l = l} e f) =
    ap (λ (z : Float). cond (same v z) 1 0 + (cond (same v b) 1 0 + count v l)) e
    ∙ ap (λ (z : Float). cond (same v d) 1 0 + (cond (same v z) 1 0 + count v l)) f ∙ turn (cond (same v d) 1 0) (cond (same v c) 1 0) (count v l)
  where
    turn : (p q n : ℕ) → p + (q + n) ≡ q + (p + n)
    turn p q n = omega arith
count_kept v (Permᴰ.trans d e) = count_kept v d ∙ count_kept v e

-- pairwise equal, up to the sign of a zero
abbrev pub AllSame : List Float → List Float → Type 0
AllSame [] [] = Unit {0}
AllSame [] (y ∷ ys) = ⊥
AllSame (x ∷ xs) [] = ⊥
AllSame (x ∷ xs) (y ∷ ys) = Same x y × AllSame xs ys

le_self : (x : Float) → T (finite x) → T (le x x)
le_self x f = le_of_val x x f f (q_le_refl (val x))

counts_self : (x : Float) (xs : List Float) → T (finite x) → 0 < count x (x ∷ xs)
unfolding count same
counts_self x xs f = subst (λ (b : Bool). 0 < cond b 1 0 + count x xs) (sym (is_true (same x x) (and_i (le x x) (le x x) (le_self x f) (le_self x f))))
    (omega arith)

-- a sample that is counted in an ordered list is at least its first
counted_low : (v y : Float) (ys : List Float) → AtMost y ys → 0 < count v ys → T (le y v)
unfolding count same
counted_low v y [] a h = absurd (omega arith)
counted_low v y (z ∷ ys) a h = go (le v z && le z v) refl (λ k. counted_low v y ys a.1 k)
  where
    go : (b : Bool) → le v z && le z v ≡ b → (0 < count v ys → T (le y v)) → T (le y v)
    go true e r = float_le_trans y z v a.0 (and_r (le v z) (le z v) (subst T (sym e) tt))
    go false e r = r (omega (arith, subst (λ (b : Bool). 0 < cond b 1 0 + count v ys) e h))

counted_first : (v y : Float) (ys : List Float) → AtMost y ys → 0 < count v (y ∷ ys) → T (le y v)
unfolding count same
counted_first v y ys a h = go (le v y && le y v) refl
  where
    go : (b : Bool) → le v y && le y v ≡ b → T (le y v)
    go true e = and_r (le v y) (le y v) (subst T (sym e) tt)
    go false e = counted_low v y ys a (omega (arith, subst (λ (b : Bool). 0 < cond b 1 0 + count v ys) e h))

-- samples that compare equal are counted alike
counted_alike : (v x y : Float) → Same x y → same v x ≡ same v y
unfolding same
counted_alike v x y s = iff (le v x && le x v) (le v y && le y v) (λ h. move x y s h) (λ h. move y x (s.1, s.0) h)
  where
    iff : (a b : Bool) → (T a → T b) → (T b → T a) → a ≡ b
    iff true true f g = refl
    iff true false f g = absurd (f tt)
    iff false true f g = absurd (g tt)
    iff false false f g = refl

    move : (p q : Float) → Same p q → T (le v p && le p v) → T (le v q && le q v)
    move p q s h = and_i (le v q) (le q v) (float_le_trans v p q (and_l (le v p) (le p v) h) s.0) (float_le_trans q p v s.1 (and_r (le v p) (le p v) h))

ordered_same : (xs ys : List Float) → AllFinite xs → AllFinite ys → Ordered xs → Ordered ys → ((v : Float) → count v xs ≡ count v ys) → AllSame xs ys
unfolding count
ordered_same [] [] f g o p e = tt
ordered_same [] (y ∷ ys) f g o p e = absurd (none (e y) (counts_self y ys g.0))
  where
    none : count y [] ≡ count y (y ∷ ys) → 0 < count y (y ∷ ys) → ⊥
    none e h = omega arith
ordered_same (x ∷ xs) [] f g o p e = absurd (none (e x) (counts_self x xs f.0))
  where
    none : count x (x ∷ xs) ≡ count x [] → 0 < count x (x ∷ xs) → ⊥
    none e h = omega arith
ordered_same (x ∷ xs) (y ∷ ys) f g o p e =
    let down = counted_first x y ys p.0 (subst (λ (n : ℕ). 0 < n) (e x) (counts_self x xs f.0)) in
    let up = counted_first y x xs o.0 (subst (λ (n : ℕ). 0 < n) (sym (e y)) (counts_self y ys g.0)) in
    ((up, down), ordered_same xs ys f.1 g.1 o.1 p.1 (λ v. rest v (counted_alike v x y (up, down)) (e v)))
  where
    left : (a b : Bool) (m n : ℕ) → a ≡ b → cond a 1 0 + m ≡ cond b 1 0 + n → m ≡ n
    left true true m n s h = omega arith
    left false false m n s h = omega arith
    left true false m n s h = absurd (subst T s tt)
    left false true m n s h = absurd (subst T (sym s) tt)

    rest : (v : Float) → same v x ≡ same v y → count v (x ∷ xs) ≡ count v (y ∷ ys) → count v xs ≡ count v ys
    rest v s h = left (same v x) (same v y) (count v xs) (count v ys) s h

-- a permutation keeps what every sample has
pub permuted_all : (p : Float → Type 0) {xs ys : List Float} → Permutes xs ys → All p xs → All p ys
permuted_all p Permᴰ.nil a = a
permuted_all p (Permᴰ.cons e d) a = (subst p e a.0, permuted_all p d a.1)
permuted_all p (Permᴰ.swap e f) a = (subst p f a.1.0, (subst p e a.0, a.1.1))
permuted_all p (Permᴰ.trans d e) a = permuted_all p e (permuted_all p d a)

-- any ordered permutation of finite samples has samples equal to the sorted ones, place by place
pub any_order : (xs ys : List Float) → AllFinite xs → Permutes xs ys → Ordered ys → AllSame ys (sorted_of xs)
any_order xs ys f p o =
    ordered_same ys (sorted_of xs) (permuted_all (λ x. T (finite x)) p f) (permuted_all (λ x. T (finite x)) (sorted_permutes xs) f) o (sorted_ordered xs f)
    (λ v. sym (count_kept v p) ∙ count_kept v (sorted_permutes xs))
