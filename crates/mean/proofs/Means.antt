-- The mean as the code has it: what the answers of its calls come to. Assumes nothing.
use Rattle.std.proofs.Common.{◌≡◌, ℕ, suc, ◌+◌, ◌-◌, min, Bool, true, false, cond, List, [], ◌∷◌, length, take, drop, pos, sym, refl, ap, ◌∙◌}
use Rattle.std.proofs.Common.{arith, length-drop, length-take}
use Rattle.std.proofs.lemmas.List.{drop-take, drop_min, take_min}
use lib.Ieee.{Float, binary64, lt, div, of_int}
use Rattle.mean.specs.Mean.{sample_inserted, sorted_onto, sorted_of, sum_from, inner_of, average_of, mean_of}
use Rattle.timestamp.specs.Floats.{zero64}

-- ---- lengths

pub inserted_length : (x : Float) (ys : List Float) → length (sample_inserted x ys) ≡ suc (length ys)
unfolding sample_inserted
inserted_length x [] = refl
inserted_length x (y ∷ ys) = go (lt x y) (inserted_length x ys)
  where
    go : (b : Bool) → length (sample_inserted x ys) ≡ suc (length ys) → length (cond b (x ∷ y ∷ ys) (y ∷ sample_inserted x ys)) ≡ suc (suc (length ys))
    go true h = refl
    go false h = ap suc h

onto_length : (ys xs : List Float) → length (sorted_onto ys xs) ≡ length ys + length xs
unfolding sorted_onto
onto_length ys [] = omega arith
onto_length ys (x ∷ xs) = onto_length (sample_inserted x ys) xs ∙ omega (arith, inserted_length x ys)

-- none is lost
pub sorted_length : (xs : List Float) → length (sorted_of xs) ≡ length xs
unfolding sorted_of
sorted_length xs = onto_length [] xs ∙ omega arith

-- ---- the mean

-- the code's slice, from start to before end, holds those inside
module _ (ordered : List Float) (d : ℕ) {end start : ℕ} (cut : end ≡ length ordered - d) (from : start ≡ min d end) where
  inner_is : take (end - start) (drop start ordered) ≡ inner_of d ordered
  inner_is =
      let e : start + (end - start) ≡ end = omega arith in
      let l : length (take end ordered) ≡ end = length-take end ordered ∙ omega arith in
      sym (drop-take start (end - start) ordered) ∙ ap (λ (k : ℕ). drop start (take k ordered)) e
      ∙ ap (λ (k : ℕ). drop k (take end ordered)) (from ∙ ap (min d) (sym l)) ∙ drop_min d (take end ordered)
      ∙ ap (λ (k : ℕ). drop d (take k ordered)) cut

  inner_length : length (inner_of d ordered) ≡ end - start
  inner_length = length-drop d (take (length ordered - d) ordered) ∙ ap (λ (k : ℕ). k - d) (length-take (length ordered - d) ordered) ∙ omega arith

module _ (xs : List Float) (d : ℕ) {n : ℕ} {ordered : List Float} (cut : n ≡ min (length xs) 64) (order : ordered ≡ sorted_of (take n xs)) where
  ordered_are : ordered ≡ sorted_of (take 64 xs)
  ordered_are = let e : n ≡ min 64 (length xs) = omega (arith, cut) in order ∙ ap sorted_of (rw e (take_min 64 xs))

  many : length ordered ≡ n
  many = ap length order ∙ sorted_length (take n xs) ∙ length-take n xs ∙ omega (arith, cut)

  -- the sum of those inside, over their number
  pub mean_is : {end start : ℕ} {sum over : Float} → end ≡ n - d → start ≡ min d end → sum ≡ sum_from zero64 (take (end - start) (drop start ordered))
      → over ≡ of_int binary64 (pos (end - start)) → div binary64 sum over ≡ mean_of d (take 64 xs)
  unfolding mean_of average_of
  mean_is {end} {start} e f s o =
      let c : end ≡ length ordered - d = omega (arith, many, e) in
      (λ k. div binary64 ((s ∙ ap (sum_from zero64) (inner_is ordered d c f)) k)
      ((o ∙ ap (λ (m : ℕ). of_int binary64 (pos m)) (sym (inner_length ordered d c f))) k))
      ∙ ap (λ (ys : List Float). average_of (inner_of d ys)) ordered_are
