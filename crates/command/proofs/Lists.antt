-- Laws of filtered lists and of lists laid out in slots, and how many a loop has counted at most. Assumes nothing.
use mathlib.Core.Path.{◌≡◌, refl, sym, ap, ◌∙◌}
use mathlib.Core.List.{List, [], ◌∷◌, ◌++◌, append-nil}
use mathlib.Core.Bool.{Bool, true, false, not, cond}
use Prim.Native.Nat.{ℕ, zero, suc, ◌+◌, ◌≤◌, ◌<◌}
use native.Mathlib.Numerals.{add-one, unary_clauses}
use native.Mathlib.Omega.{arith}
use native.Mathlib.Nat.{le_of_suc-le-suc, not-suc-le-zero}
use lib.ListN.{length, take, drop, get_or, set, length-append, length-take, take-append-drop}
use lib.Seq.{take-suc, take-take}
use Rattle.command.specs.Lists.{filter_b, pad}

module _ {A : Type 0} where
  -- ---- slots

  -- a store at the first unused slot lays out the list with one element more
  pad_push : (n : ℕ) (z : A) (xs : List A) (x : A) → length xs < n → set (pad n z xs) (length xs) x ≡ pad n z (xs ++ (x ∷ []))
  pad_push zero z xs x h = absurd (not-suc-le-zero h)
  pad_push (suc n) z [] x h = simp unary_clauses
  pad_push (suc n) z (y ∷ xs) x h = simp unary_clauses (ap (λ (l : List A). y ∷ l) (pad_push n z xs x (le_of_suc-le-suc h)))

  -- `out` is ys laid out in n slots, and k how many there are: what a loop that builds an array from the front keeps
  pub record InSlots (n : ℕ) (z : A) (ys out : List A) (k : ℕ) : Type 0 where
    pub slots : out ≡ pad n z ys
    pub count : k ≡ length ys

  pub laid_push : {n : ℕ} {z : A} {ys out : List A} {k : ℕ} → InSlots n z ys out k → (y : A) → k < n → InSlots n z (ys ++ (y ∷ [])) (set out k y) (k + 1)
  laid_push {n} {z} {ys} {out} {k} l y h =
      record {
        slots =
            let g : length ys < n = omega arith in
            rw (l.slots, l.count) (pad_push n z ys y g);
        count = simp length-append (omega arith);
      }

  -- ---- filters

  pub filter-append : (p : A → Bool) (xs ys : List A) → filter_b p (xs ++ ys) ≡ filter_b p xs ++ filter_b p ys
  filter-append p [] ys = refl
  filter-append p (x ∷ xs) ys = step (p x) (filter-append p xs ys)
    where
      step : (t : Bool) → filter_b p (xs ++ ys) ≡ filter_b p xs ++ filter_b p ys
          → cond t (x ∷ filter_b p (xs ++ ys)) (filter_b p (xs ++ ys)) ≡ cond t (x ∷ filter_b p xs) (filter_b p xs) ++ filter_b p ys
      step true e = ap (λ (l : List A). x ∷ l) e
      step false e = e

  -- one element more that passes
  pub filter_took : (p : A → Bool) (xs : List A) (i : ℕ) (d : A) → i < length xs → p (get_or xs i d) ≡ true
      → filter_b p (take (i + 1) xs) ≡ filter_b p (take i xs) ++ (get_or xs i d ∷ [])
  filter_took p xs i d h e = rw (add-one i, take-suc xs i d, filter-append p (take i xs))
      (ap (λ (t : Bool). filter_b p (take i xs) ++ cond t (get_or xs i d ∷ []) []) e)

  -- one element more that does not
  pub filter-left : (p : A → Bool) (xs : List A) (i : ℕ) (d : A) → i < length xs → p (get_or xs i d) ≡ false → filter_b p (take (i + 1) xs) ≡ filter_b p
      (take i xs)
  filter-left p xs i d h e = rw (add-one i, take-suc xs i d, filter-append p (take i xs))
      (ap (λ (t : Bool). filter_b p (take i xs) ++ cond t (get_or xs i d ∷ []) []) e ∙ append-nil (filter_b p (take i xs)))

  -- two tests that agree
  pub filter_ext : (p q : A → Bool) → ((x : A) → p x ≡ q x) → (xs : List A) → filter_b p xs ≡ filter_b q xs
  filter_ext p q h [] = refl
  filter_ext p q h (x ∷ xs) = rw (h x, filter_ext p q h xs)

  -- a test that all pass
  pub filter_all : (p : A → Bool) → ((x : A) → p x ≡ true) → (xs : List A) → filter_b p xs ≡ xs
  filter_all p h [] = refl
  filter_all p h (x ∷ xs) = rw (h x, filter_all p h xs)

  -- none is lost: those that pass and those that do not are all
  pub filter-ledger : (p : A → Bool) (xs : List A) → length (filter_b p xs) + length (filter_b (λ x. not (p x)) xs) ≡ length xs
  filter-ledger p [] = refl
  filter-ledger p (x ∷ xs) = step (p x) (filter-ledger p xs)
    where
      step : (t : Bool) → length (filter_b p xs) + length (filter_b (λ y. not (p y)) xs) ≡ length xs
          → length (cond t (x ∷ filter_b p xs) (filter_b p xs)) + length
          (cond (not t) (x ∷ filter_b (λ y. not (p y)) xs) (filter_b (λ y. not (p y)) xs)) ≡ suc (length xs)
      step true e = omega arith
      step false e = omega arith

  -- where none fail, all stay
  pub filter_none_left : (p : A → Bool) (xs : List A) → filter_b (λ x. not (p x)) xs ≡ [] → filter_b p xs ≡ xs
  filter_none_left p [] e = refl
  filter_none_left p (x ∷ xs) e = step (p x) e (filter_none_left p xs)
    where
      step : (t : Bool) → cond (not t) (x ∷ filter_b (λ y. not (p y)) xs) (filter_b (λ y. not (p y)) xs) ≡ []
          → (filter_b (λ y. not (p y)) xs ≡ [] → filter_b p xs ≡ xs) → cond t (x ∷ filter_b p xs) (filter_b p xs) ≡ x ∷ xs
      step true e f = ap (λ (l : List A). x ∷ l) (f e)
      step false e f = let z : ◌≡◌ {A = ℕ} 0 1 = cc in absurd (omega arith)

  -- where none pass, all are left
  pub filter_none : (p : A → Bool) (xs : List A) → filter_b p xs ≡ [] → filter_b (λ x. not (p x)) xs ≡ xs
  filter_none p [] e = refl
  filter_none p (x ∷ xs) e = step (p x) e (filter_none p xs)
    where
      step : (t : Bool) → cond t (x ∷ filter_b p xs) (filter_b p xs) ≡ [] → (filter_b p xs ≡ [] → filter_b (λ y. not (p y)) xs ≡ xs)
          → cond (not t) (x ∷ filter_b (λ y. not (p y)) xs) (filter_b (λ y. not (p y)) xs) ≡ x ∷ xs
      step false e f = ap (λ (l : List A). x ∷ l) (f e)
      step true e f = let z : ◌≡◌ {A = ℕ} 0 1 = cc in absurd (omega arith)

  pub filter_short : (p : A → Bool) (xs : List A) → length (filter_b p xs) ≤ length xs
  filter_short p xs = omega (arith, filter-ledger p xs)

  -- no fewer pass of more elements
  pub filter_grows : (p : A → Bool) (xs : List A) (i j : ℕ) → i ≤ j → length (filter_b p (take i xs)) ≤ length (filter_b p (take j xs))
  filter_grows p xs i j h =
      let e : take i xs ++ drop i (take j xs) ≡ take j xs = rw (← take-take i j xs h) (take-append-drop i (take j xs)) in
      let f : length (filter_b p (take j xs)) ≡ length (filter_b p (take i xs)) + length (filter_b p (drop i (take j xs))) =
      ap (λ (l : List A). length (filter_b p l)) (sym e) ∙ simp (filter-append, length-append) in
      omega arith

  -- ---- loops

  -- what a loop has counted of those that pass p once it has passed i of xs
  pub count_few : (p : A → Bool) (xs : List A) (i : ℕ) → length (filter_b p (take i xs)) ≤ i
  count_few p xs i = omega (arith, filter_short p (take i xs), length-take i xs)
