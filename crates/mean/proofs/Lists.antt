-- Samples in a list: the places, folds and insertions of the code. Assumes nothing.
use Rattle.std.proofs.Common.{◌≡◌, ℕ, suc, ◌+◌, ◌-◌, ◌<◌, ◌≤◌, Bool, true, false, cond, not, ◌&&◌, List, [], ◌∷◌, ◌++◌, length, get_or, take, drop, sym, refl}
use Rattle.std.proofs.Common.{Option, Some, None, ap, ◌∙◌, add-one, add-zero, arith, length-append, length-drop, length-take}
use Rattle.std.proofs.Common.{drop_of_length-le, take-suc, take-take}
use lib.Seq.{drop-append-le, drop-append_seam, drop-drop, get_or-drop, take-append-le, take-append_seam, take_all}
use lib.Ieee.{Float, nan, binary64, lt, add}
use borrow.Author.Tests.{ltb-false}
use Rattle.std.proofs.lemmas.List.{append-nil}
use borrow.Rule.Slice.PartMut.{put_mid}
use Rattle.std.specs.List.{fold, insert, list_all, position, position_or_len}
use Rattle.std.specs.Option.{unwrap_or}
use Rattle.mean.specs.Mean.{sample_inserted, place_of, sorted_onto, sorted_of, sum_from, samples_ok}
use Rattle.timestamp.specs.Floats.{sample_ok}
use Rattle.mean.proofs.Means.{sorted_length}

-- ---- folds

-- the place of a sample is the first at which a greater one stands
place_is : (x : Float) (ys : List Float) → position_or_len (λ y. lt x y) ys ≡ place_of x ys
unfolding place_of
place_is x [] = refl
place_is x (y ∷ ys) = go (lt x y) (place_is x ys)
  where
    go : (b : Bool) → position_or_len (λ y. lt x y) ys ≡ place_of x ys
        → cond (not b) (1 + position_or_len (λ y. lt x y) ys) 0 ≡ cond b 0 (suc (place_of x ys))
    go true h = refl
    go false h = omega arith

-- the sum is a fold
pub sum_folds : (sum : Float) (xs : List Float) → sum_from sum xs ≡ fold (λ s x. add binary64 s x) sum xs
unfolding sum_from
sum_folds sum [] = refl
sum_folds sum (x ∷ xs) = sum_folds (add binary64 sum x) xs

-- the test of samples is a test of each
pub samples_all : (xs : List Float) → samples_ok xs ≡ list_all (λ x. sample_ok x) xs
unfolding samples_ok
samples_all [] = refl
samples_all (x ∷ xs) = ap (λ (b : Bool). sample_ok x && b) (samples_all xs)

-- ---- a sample moved in

-- the place is in the list
pub place_most : (x : Float) (ys : List Float) → place_of x ys ≤ length ys
unfolding place_of
place_most x [] = omega arith
place_most x (y ∷ ys) = go (lt x y) (place_most x ys)
  where
    go : (b : Bool) → place_of x ys ≤ length ys → cond b 0 (suc (place_of x ys)) ≤ suc (length ys)
    go true h = omega arith
    go false h = omega arith

-- x goes to its place
pub inserted_at : (x : Float) (ys : List Float) → sample_inserted x ys ≡ take (place_of x ys) ys ++ (x ∷ drop (place_of x ys) ys)
unfolding place_of sample_inserted
inserted_at x [] = refl
inserted_at x (y ∷ ys) = go (lt x y) (inserted_at x ys)
  where
    go : (b : Bool) → sample_inserted x ys ≡ take (place_of x ys) ys ++ (x ∷ drop (place_of x ys) ys)
        → cond b (x ∷ y ∷ ys) (y ∷ sample_inserted x ys) ≡ take (cond b 0 (suc (place_of x ys))) (y ∷ ys) ++ (x ∷ drop (cond b 0 (suc (place_of x ys))) (y
        ∷ ys))
    go true h = refl
    go false h = ap (λ (l : List Float). y ∷ l) h

-- the place as it is found: where the first greater sample stands, or the end
pub placed : (x : Float) (ys : List Float) {at : Option ℕ} {i : ℕ} → at ≡ position (λ y. lt x y) ys → i ≡ unwrap_or at (length ys) → i ≡ place_of x ys
placed x ys e f =
    f ∙ ap (λ (o : Option ℕ). unwrap_or o (length ys)) e ∙ go _ (ltb-false (position_or_len (λ y. lt x y) ys) (length ys)) ∙ place_is x ys
  where
    go : (b : Bool) → (b ≡ false → length ys ≤ position_or_len (λ y. lt x y) ys)
        → unwrap_or (cond b (Some (position_or_len (λ y. lt x y) ys)) None) (length ys) ≡ position_or_len (λ y. lt x y) ys
    go true h = refl
    go false h = omega (arith, h refl, place_is x ys, place_most x ys)

-- all from the place on have moved up: the last slot's content is left over
pub insert_all : (x : Float) (s items : List Float) {i : ℕ} (j : ℕ) (moved : Float) → 0 < length s → i ≡ place_of x (take (length s - 1) s)
    → length items ≡ length (take (length s - i) (drop i s)) → length (take (length s - i) (drop i s)) ≤ j
    → insert items j moved ≡ x ∷ take (length s - i) (drop i s) → put_mid i (length s - i) s items ≡ sample_inserted x (take (length s - 1) s)
insert_all x s items {i} j moved some at lo over e =
    let n = length s - 1 in
    let f = take (length s - 1) s in
    let z = get_or s (length s - 1) nan in
    let lf : length f ≡ n = length-take n s ∙ omega arith in
    let hi : i ≤ length f = omega (arith, place_most x f) in
    let ld : length (drop i s) ≡ length s - i = length-drop i s in
    let se : s ≡ f ++ (z ∷ []) = sym (take_all (suc n) s (omega arith)) ∙ take-suc s n nan (omega arith) in
    let te : take i s ≡ take i f = ap (take i) se ∙ take-append-le i f (z ∷ []) hi in
    let de : drop i s ≡ drop i f ++ (z ∷ []) = ap (drop i) se ∙ drop-append-le i f (z ∷ []) hi in
    let all : take (length s - i) (drop i s) ≡ drop i s = take_all (length s - i) (drop i s) (omega arith) in
    let past : length items ≤ j = omega arith in
    let left : insert items j moved ≡ items ++ (moved ∷ []) = (λ k. take_all j items past k ++ (moved ∷ drop_of_length-le items past k)) in
    let right : items ++ (moved ∷ []) ≡ (x ∷ drop i f) ++ (z ∷ []) = sym left ∙ e ∙ ap (λ (l : List Float). x ∷ l) (all ∙ de) in
    let li : length items ≡ length (x ∷ drop i f) = omega (arith, lo, ap length all, ld, lf, length-drop i f) in
    let it : items ≡ x ∷ drop i f = sym (take-append_seam items (moved ∷ [])) ∙ ap (take (length items)) right
    ∙ ap (λ (k : ℕ). take k ((x ∷ drop i f) ++ (z ∷ []))) li ∙ take-append_seam (x ∷ drop i f) (z ∷ []) in
    let rest : items ++ drop (length s - i) (drop i s) ≡ x ∷ drop i f = ap (λ (l : List Float). items ++ l) (drop_of_length-le (drop i s) (omega arith))
    ∙ append-nil items ∙ it in
    (λ k. te k ++ rest k) ∙ ap (λ (j : ℕ). take j f ++ (x ∷ drop j f)) at ∙ sym (inserted_at x f)

-- ---- sorting

onto_snoc : (ys xs : List Float) (x : Float) → sorted_onto ys (xs ++ (x ∷ [])) ≡ sample_inserted x (sorted_onto ys xs)
unfolding sorted_onto
onto_snoc ys [] x = refl
onto_snoc ys (z ∷ xs) x = onto_snoc (sample_inserted z ys) xs x

-- the last sample is inserted last
pub sorted_snoc : (xs : List Float) (x : Float) → sorted_of (xs ++ (x ∷ [])) ≡ sample_inserted x (sorted_of xs)
unfolding sorted_of
sorted_snoc xs x = onto_snoc [] xs x

-- ---- one more sample in order

-- the first i are in order and the rest as they were; one more is inserted
pub sorted_more : (xs s : List Float) {new : List Float} (i : ℕ) → i < length xs → s ≡ sorted_of (take i xs) ++ drop i xs
    → new ≡ sample_inserted (get_or s i nan) (take (length (take (i + 1) s) - 1) (take (i + 1) s))
    → new ++ drop (i + 1) s ≡ sorted_of (take (i + 1) xs) ++ drop (i + 1) xs
sorted_more xs s {new} i h e m =
    let a = sorted_of (take i xs) in
    let x = get_or xs i nan in
    let la : length a ≡ i = sorted_length (take i xs) ∙ length-take i xs ∙ omega arith in
    let ls : length s ≡ length xs = ap length e ∙ length-append a (drop i xs) ∙ omega (arith, length-drop i xs) in
    let ts : take i s ≡ a = ap (take i) e ∙ ap (λ (k : ℕ). take k (a ++ drop i xs)) (sym la) ∙ take-append_seam a (drop i xs) in
    let ds : drop i s ≡ drop i xs = ap (drop i) e ∙ ap (λ (k : ℕ). drop k (a ++ drop i xs)) (sym la) ∙ drop-append_seam a (drop i xs) in
    let xe : get_or s i nan ≡ x = rw add-zero at (sym (get_or-drop i s 0 nan) ∙ ap (λ (l : List Float). get_or l 0 nan) ds ∙ get_or-drop i xs 0 nan) in
    let lt : length (take (i + 1) s) - 1 ≡ i = omega (arith, length-take (i + 1) s) in
    let fe : take (length (take (i + 1) s) - 1) (take (i + 1) s) ≡ a = ap (λ (k : ℕ). take k (take (i + 1) s)) lt ∙ take-take i (i + 1) s (omega arith) ∙ ts in
    let te : take (i + 1) xs ≡ take i xs ++ (x ∷ []) = rw (add-one i) (take-suc xs i nan h) in
    let ne : new ≡ sorted_of (take (i + 1) xs) = m ∙ (λ k. sample_inserted (xe k) (fe k)) ∙ sym (sorted_snoc (take i xs) x) ∙ ap sorted_of (sym te) in
    let de : drop (i + 1) s ≡ drop (i + 1) xs = sym (drop-drop 1 i s) ∙ ap (drop 1) ds ∙ drop-drop 1 i xs in
    (λ k. ne k ++ de k)
