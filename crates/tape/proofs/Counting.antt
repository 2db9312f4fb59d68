-- The counts of step words and of command words, by side, read each word back, and add up along a list. Assumes nothing.
use mathlib.Core.List.{List, [], ◌∷◌, ◌++◌}
use mathlib.Core.Path.{◌≡◌, refl, ap}
use mathlib.Core.Bool.{Bool, true, false, ◌&&◌}
use Prim.Native.Nat.{ℕ, zero, suc, ◌+◌, ◌-◌, ◌%◌, ◌<◌}
use native.Mathlib.Omega.{arith}
use borrow.Author.Tests.{eq-eqb, ne_eqb}
use lib.Dec.{eqb}
use lib.ListN.{replicate}
use lib.Ieee.{Float}
use Rattle.tape.specs.Words.{step_word, command_word, snapshot_word, publish_word, none_word, weight_words, mix_words, kind_of, side_of, count_if, step_words}
use Rattle.tape.specs.Words.{steps_on, commands_on}
use Rattle.tape.proofs.Reading.{kind_of_step, kind_of_command, kind_of_snapshot, kind_of_publish, kind_of_mix, kind_of_weight, kind_of_none}
use Rattle.tape.proofs.Reading.{side_of_step, side_of_command}

-- ---- along a list

module _ (side : ℕ) where
  pub steps_on-append : (us ws : List ℕ) → steps_on side (us ++ ws) ≡ steps_on side us + steps_on side ws
  unfolding steps_on
  steps_on-append [] ws = omega arith
  steps_on-append (u ∷ us) ws = omega (arith, steps_on-append us ws)

  pub commands_on-append : (us ws : List ℕ) → commands_on side (us ++ ws) ≡ commands_on side us + commands_on side ws
  unfolding commands_on
  commands_on-append [] ws = omega arith
  commands_on-append (u ∷ us) ws = omega (arith, commands_on-append us ws)

-- the step words are those of the two sides
pub steps_both : (ws : List ℕ) → step_words ws ≡ steps_on 0 ws + steps_on 1 ws
unfolding step_words steps_on
steps_both [] = refl
steps_both (w ∷ ws) = go (eqb (kind_of w) 1) (side_of w) (omega arith) (steps_both ws)
  where
    at : (s : ℕ) → s < 2 → count_if (eqb s 0) + count_if (eqb s 1) ≡ 1
    at zero h = refl
    at (suc zero) h = refl
    at (suc (suc s)) h = absurd (omega arith)

    go : (k : Bool) (s : ℕ) → s < 2 → step_words ws ≡ steps_on 0 ws + steps_on 1 ws
        → count_if k + step_words ws ≡ (count_if (k && eqb s 0) + steps_on 0 ws) + (count_if (k && eqb s 1) + steps_on 1 ws)
    go true s h e = omega (arith, at s h)
    go false s h e = omega arith

-- ---- a word of each kind

-- a word of kind k that is neither a step nor a command
module _ (w k : ℕ) (e : kind_of w ≡ k) (ws : List ℕ) where
  steps_on_pass : (side : ℕ) → eqb k 1 ≡ false → steps_on side (w ∷ ws) ≡ steps_on side ws
  unfolding steps_on
  steps_on_pass side h = rw (e, h) (omega arith)

  commands_on_pass : (side : ℕ) → eqb k 2 ≡ false → commands_on side (w ∷ ws) ≡ commands_on side ws
  unfolding commands_on
  commands_on_pass side h = rw (e, h) (omega arith)

module _ (side : ℕ) (ws : List ℕ) where
  pub steps_on_step : (s : ℕ) → steps_on side (step_word s ∷ ws) ≡ count_if (eqb (s % 2) side) + steps_on side ws
  unfolding steps_on
  steps_on_step s = rw (kind_of_step s, side_of_step s)

  pub steps_on_command : (s h : ℕ) → steps_on side (command_word s h ∷ ws) ≡ steps_on side ws
  steps_on_command s h = steps_on_pass (command_word s h) 2 (kind_of_command s h) ws side refl

  pub steps_on_snapshot : (s h : ℕ) → steps_on side (snapshot_word s h ∷ ws) ≡ steps_on side ws
  steps_on_snapshot s h = steps_on_pass (snapshot_word s h) 3 (kind_of_snapshot s h) ws side refl

  pub steps_on_publish : (s : ℕ) → steps_on side (publish_word s ∷ ws) ≡ steps_on side ws
  steps_on_publish s = steps_on_pass (publish_word s) 4 (kind_of_publish s) ws side refl

  pub steps_on_none : steps_on side (none_word ∷ ws) ≡ steps_on side ws
  steps_on_none = steps_on_pass none_word 7 kind_of_none ws side refl

  pub commands_on_step : (s : ℕ) → commands_on side (step_word s ∷ ws) ≡ commands_on side ws
  commands_on_step s = commands_on_pass (step_word s) 1 (kind_of_step s) ws side refl

  pub commands_on_command : (s h : ℕ) → commands_on side (command_word s h ∷ ws) ≡ count_if (eqb (s % 2) side) + commands_on side ws
  unfolding commands_on
  commands_on_command s h = rw (kind_of_command s h, side_of_command s h)

  pub commands_on_snapshot : (s h : ℕ) → commands_on side (snapshot_word s h ∷ ws) ≡ commands_on side ws
  commands_on_snapshot s h = commands_on_pass (snapshot_word s h) 3 (kind_of_snapshot s h) ws side refl

  pub commands_on_publish : (s : ℕ) → commands_on side (publish_word s ∷ ws) ≡ commands_on side ws
  commands_on_publish s = commands_on_pass (publish_word s) 4 (kind_of_publish s) ws side refl

  pub commands_on_none : commands_on side (none_word ∷ ws) ≡ commands_on side ws
  commands_on_none = commands_on_pass none_word 7 kind_of_none ws side refl

-- ---- the words of a mix

module _ (side : ℕ) (x : Float) where
  pub steps_on_mix : steps_on side (mix_words x) ≡ 0
  unfolding mix_words weight_words steps_on
  steps_on_mix = simp (kind_of_mix, kind_of_weight)

  pub commands_on_mix : commands_on side (mix_words x) ≡ 0
  unfolding mix_words weight_words commands_on
  commands_on_mix = simp (kind_of_mix, kind_of_weight)

-- ---- the zeros past the last word

module _ (side : ℕ) where
  pub steps_on_zeros : (n : ℕ) → steps_on side (replicate n 0) ≡ 0
  unfolding steps_on
  steps_on_zeros zero = refl
  steps_on_zeros (suc n) = omega (arith, steps_on_zeros n)

  pub commands_on_zeros : (n : ℕ) → commands_on side (replicate n 0) ≡ 0
  unfolding commands_on
  commands_on_zeros zero = refl
  commands_on_zeros (suc n) = omega (arith, commands_on_zeros n)

-- ---- a side, counted on itself and on the other one

module _ (s : ℕ) (h : s < 2) where
  pub same_side : count_if (eqb (s % 2) s) ≡ 1
  same_side = ap count_if (eq-eqb (s % 2) s (omega arith))

  pub other_side : count_if (eqb (s % 2) (1 - s)) ≡ 0
  other_side = ap count_if (ne_eqb (s % 2) (1 - s) (λ e. omega arith))
