-- A sound buffer, by document 01's "Sound" under "Turned down by the session": counts within limits, entries in order and range, every handle within 24
-- bits. An entry is a word, so that its spare bits are 0 is part of it.
-- Definitions only. Assumes nothing.
use Rattle.std.specs.Prelude.{List, [], ◌∷◌, Bool, true, false, not, ◌&&◌, eqb, leb, drop}
use Rattle.refusals.specs.Limits.{buffer_room}
use Rattle.timestamp.specs.declared.Timestamp.{Timestamp}
use Rattle.command.specs.Entries.{Entry, plain_entry}
use Rattle.command.specs.declared.CommandBuffer.{CommandBuffer}
use Rattle.command.specs.Lists.{all_b}
use Rattle.command.specs.Buffer.{held, blank, in_range_of, later_than}

-- x and the entries after it are in order: none is later than the one after it, around the midpoint m
unfoldable pub in_order_after : Timestamp → Entry → List Entry → Bool
in_order_after m x [] = true
in_order_after m x (y ∷ ys) = not (later_than m y x) && in_order_after m y ys

-- entries are in order
unfoldable pub in_order : Timestamp → List Entry → Bool
in_order m [] = true
in_order m (x ∷ xs) = in_order_after m x xs

-- entries are in order and in range, around the midpoint m
abbrev pub ordered_in : Timestamp → List Entry → Bool
ordered_in m xs = in_order m xs && all_b (in_range_of m) xs

-- a buffer is sound; what its unused slots hold does not matter
unfoldable pub sound_buffer : CommandBuffer → Bool
sound_buffer b = leb b.len buffer_room && ordered_in b.timestamp (held b) && all_b plain_entry (held b)

-- slots are blank
abbrev pub all_blank : List Entry → Bool
all_blank xs = all_b (λ e. eqb e blank) xs

-- a buffer is tidy: it is sound, and its unused slots are blank
unfoldable pub tidy_of : CommandBuffer → Bool
tidy_of b = sound_buffer b && all_blank (drop b.len b.entries)

-- a buffer is tidy where it is known to be
abbrev pub known_of : Bool → CommandBuffer → Bool
known_of true b = tidy_of b
known_of false b = true
