-- The words that go out, as document 01 has them under "Inbox and tape". A word is a number of 32 bits, its kind in the top 4.
-- Definitions only. Assumes nothing.
use Rattle.std.specs.Prelude.{ℕ, ◌+◌, ◌*◌, ◌/◌, ◌%◌, ◌^◌, Bool, true, false, ◌&&◌, List, [], ◌∷◌, eqb, Float}
use Rattle.std.specs.Float.{binary64}
use Rattle.std.specs.Float.Ieee.{to_bits}
use Rattle.refusals.specs.Limits.{handle_room}

-- the word of a kind, with what its low 28 bits hold
abbrev pub word_of : ℕ → ℕ → ℕ
word_of kind rest = kind * 2 ^ 28 + rest

-- bit 27 is the world: 0 left, 1 right
abbrev pub side_bit : ℕ → ℕ
side_bit side = (side % 2) * 2 ^ 27

-- kind 1: a step of a world
unfoldable pub step_word : ℕ → ℕ
step_word side = word_of 1 (side_bit side)

-- kind 2: a command applied to a world, its handle in the low 24 bits
unfoldable pub command_word : ℕ → ℕ → ℕ
command_word side handle = word_of 2 (side_bit side + handle % handle_room)

-- kind 3: a snapshot loaded into a world, its handle in the low 24 bits
unfoldable pub snapshot_word : ℕ → ℕ → ℕ
snapshot_word side handle = word_of 3 (side_bit side + handle % handle_room)

-- kind 4: that world is published
unfoldable pub publish_word : ℕ → ℕ
publish_word side = word_of 4 (side_bit side)

-- kind 5: a mix is published; bit 27 is 0
unfoldable pub mix_word : ℕ
mix_word = word_of 5 0

-- kind 6: a part of a mix's weight, of at most 28 bits
unfoldable pub weight_word : ℕ → ℕ
weight_word part = word_of 6 (part % 2 ^ 28)

-- kind 7: nothing is published; bit 27 is 0
unfoldable pub none_word : ℕ
none_word = word_of 7 0

-- 64 bits as three words of kind 6: the 8 highest, the next 28 and the last 28
unfoldable pub weight_words : ℕ → List ℕ
weight_words bits = weight_word (bits / 2 ^ 56) ∷ weight_word (bits / 2 ^ 28) ∷ weight_word bits ∷ []

-- the publishing of a mix: its word, and the weight's binary64 pattern
unfoldable pub mix_words : Float → List ℕ
mix_words weight = mix_word ∷ weight_words (to_bits binary64 weight)

-- the kind of a word
abbrev pub kind_of : ℕ → ℕ
kind_of w = w / 2 ^ 28

-- the world of a word: its bit 27
abbrev pub side_of : ℕ → ℕ
side_of w = (w / 2 ^ 27) % 2

-- 1 where a test holds, and 0 where not
abbrev pub count_if : Bool → ℕ
count_if true = 1
count_if false = 0

-- the step words of a list
unfoldable pub step_words : List ℕ → ℕ
step_words [] = 0
step_words (w ∷ ws) = count_if (eqb (kind_of w) 1) + step_words ws

-- the step words of a list for one side
unfoldable pub steps_on : ℕ → List ℕ → ℕ
steps_on side [] = 0
steps_on side (w ∷ ws) = count_if (eqb (kind_of w) 1 && eqb (side_of w) side) + steps_on side ws

-- the snapshot words of a list
unfoldable pub snapshot_words : List ℕ → ℕ
snapshot_words [] = 0
snapshot_words (w ∷ ws) = count_if (eqb (kind_of w) 3) + snapshot_words ws

-- the command words of a list for one side
unfoldable pub commands_on : ℕ → List ℕ → ℕ
commands_on side [] = 0
commands_on side (w ∷ ws) = count_if (eqb (kind_of w) 2 && eqb (side_of w) side) + commands_on side ws
