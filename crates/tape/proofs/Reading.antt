-- What each word reads as: its kind and, for a step or a command, its side. Assumes nothing.
use mathlib.Core.Path.{◌≡◌, refl, ap, ◌∙◌}
use Prim.Native.Nat.{ℕ, ◌+◌, ◌%◌, ◌^◌, ◌<◌}
use native.Mathlib.Omega.{arith}
use Rattle.tape.specs.Words.{word_of, side_bit, step_word, command_word, snapshot_word, publish_word, mix_word, weight_word, none_word, kind_of, side_of}

-- ---- the kind

kind_is : (k rest : ℕ) → rest < 2 ^ 28 → kind_of (word_of k rest) ≡ k
kind_is k rest h = omega arith

pub kind_of_step : (s : ℕ) → kind_of (step_word s) ≡ 1
unfolding step_word
kind_of_step s = kind_is 1 (side_bit s) (omega arith)

pub kind_of_command : (s h : ℕ) → kind_of (command_word s h) ≡ 2
unfolding command_word
kind_of_command s h = kind_is 2 (side_bit s + h % 2 ^ 24) (omega arith)

pub kind_of_snapshot : (s h : ℕ) → kind_of (snapshot_word s h) ≡ 3
unfolding snapshot_word
kind_of_snapshot s h = kind_is 3 (side_bit s + h % 2 ^ 24) (omega arith)

pub kind_of_publish : (s : ℕ) → kind_of (publish_word s) ≡ 4
unfolding publish_word
kind_of_publish s = kind_is 4 (side_bit s) (omega arith)

pub kind_of_mix : kind_of mix_word ≡ 5
unfolding mix_word
kind_of_mix = refl

pub kind_of_weight : (part : ℕ) → kind_of (weight_word part) ≡ 6
unfolding weight_word
kind_of_weight part = kind_is 6 (part % 2 ^ 28) (omega arith)

pub kind_of_none : kind_of none_word ≡ 7
unfolding none_word
kind_of_none = refl

-- ---- the side

side_is : (k s low : ℕ) → low < 2 ^ 27 → side_of (word_of k (side_bit s + low)) ≡ s % 2
side_is k s low h = omega arith

bare : (s : ℕ) → side_bit s ≡ side_bit s + 0
bare s = omega arith

pub side_of_step : (s : ℕ) → side_of (step_word s) ≡ s % 2
unfolding step_word
side_of_step s = ap (λ (n : ℕ). side_of (word_of 1 n)) (bare s) ∙ side_is 1 s 0 (omega arith)

pub side_of_command : (s h : ℕ) → side_of (command_word s h) ≡ s % 2
unfolding command_word
side_of_command s h = side_is 2 s (h % 2 ^ 24) (omega arith)
