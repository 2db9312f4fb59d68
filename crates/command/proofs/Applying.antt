-- The command words of entries, and what a loop keeps that puts them on the tape. Assumes nothing.
use mathlib.Core.Path.{◌≡◌, refl, ◌∙◌}
use mathlib.Core.List.{List, [], ◌∷◌, ◌++◌, map-append}
use mathlib.Core.Bool.{Bool, true}
use Prim.Native.Nat.{ℕ, ◌+◌, ◌-◌, ◌≤◌, ◌<◌}
use native.Mathlib.Omega.{arith}
use lib.ListN.{length, take, get_or, length-map, length-take}
use Rattle.tape.specs.Words.{command_word, steps_on, commands_on}
use Rattle.tape.specs.declared.Tape.{Tape}
use Rattle.tape.specs.Tape.{PutsOn}
use Rattle.tape.proofs.Writing.{on_then, on_as}
use Rattle.tape.proofs.Counting.{steps_on_command, commands_on_command, same_side, other_side}
use Rattle.command.specs.Entries.{Entry, handle_in}
use Rattle.command.specs.Lists.{filter_b}
use Rattle.command.specs.Buffer.{blank, command_words}
use Rattle.command.proofs.Lists.{filter_took, filter_short}

-- ---- the words

module _ (side : ℕ) where
  pub words_append : (xs ys : List Entry) → command_words side (xs ++ ys) ≡ command_words side xs ++ command_words side ys
  unfolding command_words
  words_append xs ys = map-append (λ e. command_word side (handle_in e)) xs ys

  pub words_one : (e : Entry) → command_words side (e ∷ []) ≡ command_word side (handle_in e) ∷ []
  unfolding command_words
  words_one e = refl

  pub words-length : (xs : List Entry) → length (command_words side xs) ≡ length xs
  unfolding command_words
  words-length xs = length-map xs (λ e. command_word side (handle_in e))

  pub words_no_step_on : (other : ℕ) (xs : List Entry) → steps_on other (command_words side xs) ≡ 0
  unfolding command_words steps_on
  words_no_step_on other [] = refl
  words_no_step_on other (x ∷ xs) = steps_on_command other (command_words side xs) side (handle_in x) ∙ words_no_step_on other xs

-- on their own side they count as many as there are entries, and on the other side none
pub words_counted : (side : ℕ) → side < 2 → (xs : List Entry) → commands_on side (command_words side xs) ≡ length xs
unfolding command_words commands_on
words_counted side h [] = refl
words_counted side h (x ∷ xs) = commands_on_command side (command_words side xs) side (handle_in x) ∙ omega (arith, same_side side h, words_counted side h xs)

pub words_other_side : (side : ℕ) → side < 2 → (xs : List Entry) → commands_on (1 - side) (command_words side xs) ≡ 0
unfolding command_words commands_on
words_other_side side h [] = refl
words_other_side side h (x ∷ xs) = commands_on_command (1 - side) (command_words side xs) side (handle_in x)
    ∙ omega (arith, other_side side h, words_other_side side h xs)

-- ---- the loop

-- the words of those of the first i of xs that pass p are put: no more words than entries are passed
pub apply_few : (side : ℕ) (p : Entry → Bool) (xs : List Entry) (i : ℕ) {was now : Tape}
    → PutsOn was (command_words side (filter_b p (take i xs))) now → now.at ≤ was.at + i
apply_few side p xs i s = omega (arith, s.at, words-length side (filter_b p (take i xs)), filter_short p (take i xs), length-take i xs)

-- and the word of one entry more that passes
pub apply_one : (side : ℕ) (p : Entry → Bool) (xs : List Entry) (i : ℕ) {was mid now : Tape} {w : ℕ} → i < length xs
    → p (get_or xs i blank) ≡ true → w ≡ command_word side (handle_in (get_or xs i blank)) → PutsOn was (command_words side (filter_b p (take i xs))) mid
    → PutsOn mid (w ∷ []) now → PutsOn was (command_words side (filter_b p (take (i + 1) xs))) now
apply_one side p xs i {w = w} h e f s u =
    let all : command_words side (filter_b p (take i xs)) ++ (w ∷ []) ≡ command_words side (filter_b p (take (i + 1) xs)) =
    rw (filter_took p xs i blank h e, words_append, words_one, f) refl in
    on_as all (on_then s u)

-- the words of entries of a buffer that pass a test are at most 64
pub applied_few : (side : ℕ) (p : Entry → Bool) (xs : List Entry) {n : ℕ} {was now : Tape} → PutsOn was (command_words side (filter_b p xs)) now
    → length xs ≤ n → now.at ≤ was.at + n
applied_few side p xs u few = omega (arith, u.at, words-length side (filter_b p xs), filter_short p xs, few)
