-- What stands on a tape, as document 01 has it under "Inbox and tape": words put on it from a place on, and zeros past the last one.
-- Definitions only. Assumes nothing.
use Rattle.std.specs.Prelude.{ℕ, ◌+◌, ◌-◌, ◌^◌, ◌≡◌, List, length, replicate}
use Rattle.std.proofs.lemmas.List.Edits.{sets}
use Rattle.tape.specs.declared.Tape.{Tape}

-- the tape after words are put on it from a place on; a word past its end leaves no trace
unfoldable pub written : List ℕ → ℕ → List ℕ → List ℕ
written tape at words = sets tape at words

-- how many words stand from a place to the tape's end
abbrev pub words_from : List ℕ → ℕ → ℕ
words_from tape from = length tape - from

-- the tape with zeros from a place to its end
unfoldable pub cleared : List ℕ → ℕ → List ℕ
cleared tape from = written tape from (replicate (words_from tape from) 0)

-- the count of a tape's words stays below this or is this
abbrev pub count_end : ℕ
count_end = 2 ^ 32

-- a publishing puts at most so many words: a mix and the three of its weight
abbrev pub publish_room : ℕ
publish_room = 4

-- words put on the tape `was` from a place on: the next place counts them all, and the tape has those that fit
pub record Puts (was : List ℕ) (place : ℕ) (words : List ℕ) (next : ℕ) (last : List ℕ) : Type 0 where
  pub at : next ≡ place + length words
  pub tape : last ≡ written was place words

-- words put on a tape that is lent, at its next place; the tape stays the one that was lent
pub record PutsOn (was : Tape) (words : List ℕ) (now : Tape) : Type 0 where
  pub at : now.at ≡ was.at + length words
  pub tape : now.words.now ≡ written was.words.now was.at words
  pub lent : now.words.ghost_name ≡ was.words.ghost_name
