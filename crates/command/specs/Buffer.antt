-- Command buffers as document 01 has them, under "src/command.rs": entries by stamp, then arrival, around a midpoint.
-- Definitions only. Assumes nothing.
use Rattle.std.specs.Prelude.{ℕ, ◌+◌, ◌≡◌, List, [], ◌∷◌, ◌++◌, map, Bool, true, false, not, ltb, ℤ, pos, length, take}
use Rattle.std.specs.Int.Signed.{le_z}
use Rattle.timestamp.specs.declared.Timestamp.{Timestamp}
use Rattle.timestamp.specs.Timestamps.{difference_of, signed_of, in_range}
use Rattle.refusals.specs.Limits.{buffer_room}
use Rattle.tape.specs.Words.{command_word}
use Rattle.tape.specs.Tape.{written}
use Rattle.tape.specs.declared.Tape.{Tape}
use Rattle.command.specs.Lists.{filter_b, pad}
use Rattle.command.specs.Entries.{Entry, stamp_in, handle_in}
use Rattle.command.specs.declared.CommandBuffer.{CommandBuffer}
use Rattle.command.specs.declared.Outcome.{Outcome}
use Rattle.command.specs.declared.Outcome.TheVariants.{Taken, OutOfRange, Full}

-- ---- what operations come to

-- an insertion: what became of the entry, and the buffer after it
pub record Insertion : Type 0 where
  pub outcome : Outcome
  pub buffer : CommandBuffer

-- a move of the midpoint: the buffer after it, and how many entries it drops
pub record Moved : Type 0 where
  pub buffer : CommandBuffer
  pub dropped : ℕ

-- a drain: the buffer after it, and how many entries it takes
pub record Drained : Type 0 where
  pub buffer : CommandBuffer
  pub count : ℕ

-- ---- the entries

-- the entries of a buffer, oldest first
abbrev pub held : CommandBuffer → List Entry
held b = take b.len b.entries

-- what an unused slot holds in a buffer that is laid out
abbrev pub blank : Entry
blank = 0

-- the buffer of given entries and midpoint, its unused slots blank
unfoldable pub laid : List Entry → Timestamp → CommandBuffer
laid xs t = record { entries = pad buffer_room blank xs; len = length xs; timestamp = t }

-- the signed difference of an entry's stamp to a stamp
abbrev pub signed_to : Timestamp → Entry → ℤ
signed_to s e = signed_of (difference_of (stamp_in e) s.0)

-- an entry is in the accepted range around the midpoint m
unfoldable pub in_range_of : Timestamp → Entry → Bool
in_range_of m e = in_range m.0 (stamp_in e)

-- a drain up to s takes an entry: its signed difference to s is at most 0
unfoldable pub due_of : Timestamp → Entry → Bool
due_of s e = le_z (signed_to s e) (pos 0)

-- x is later than e, by their signed differences to the midpoint m
unfoldable pub later_than : Timestamp → Entry → Entry → Bool
later_than m e x = not (le_z (signed_to m x) (signed_to m e))

-- e among other entries: after all that are not later, so after those of its own stamp, and before those that are
unfoldable pub placed_of : Timestamp → Entry → List Entry → List Entry
placed_of m e xs = filter_b (λ x. not (later_than m e x)) xs ++ (e ∷ filter_b (later_than m e) xs)

-- one of two answers of an insertion
abbrev pub pick_insertion : Bool → Insertion → Insertion → Insertion
pick_insertion true a b = a
pick_insertion false a b = b

-- an entry out of range leaves the buffer as it is, and so does one in range where 64 are held; any other takes its place
unfoldable pub inserted_of : CommandBuffer → Entry → Insertion
inserted_of b e =
    pick_insertion (in_range_of b.timestamp e)
    (pick_insertion (ltb (length (held b)) buffer_room)
    (record { outcome = Taken; buffer = laid (placed_of b.timestamp e (held b)) b.timestamp })
    (record { outcome = Full; buffer = b }))
    (record { outcome = OutOfRange; buffer = b })

-- how many entries an insertion adds, which the ledger counts as taken
abbrev pub taken_by : Outcome → ℕ
taken_by Taken = 1
taken_by OutOfRange = 0
taken_by Full = 0

-- a buffer takes the command but holds 64: refusal 23
abbrev pub full_by : Outcome → Bool
full_by Taken = false
full_by OutOfRange = false
full_by Full = true

-- a buffer of whose entries some go and the others are left: where none go its slots stay as they are, and else it is laid out anew
unfoldable pub leaving : (gone left : List Entry) → CommandBuffer → CommandBuffer
leaving [] left b = b
leaving (x ∷ gone) left b = laid left b.timestamp

-- a buffer with another midpoint
abbrev pub around : Timestamp → CommandBuffer → CommandBuffer
around t b = record { entries = b.entries; len = b.len; timestamp = t }

-- the entries that a move of the midpoint to t drops: those out of the new range
unfoldable pub dropped_of : CommandBuffer → Timestamp → List Entry
dropped_of b t = filter_b (λ e. not (in_range_of t e)) (held b)

-- the midpoint is moved to t: exactly the entries in the new range stay
unfoldable pub moved_of : CommandBuffer → Timestamp → Moved
moved_of b t = record { buffer = leaving (dropped_of b t) (filter_b (in_range_of t) (held b)) (around t b); dropped = length (dropped_of b t) }

-- the entries that a drain up to s takes, oldest first
unfoldable pub taken_of : CommandBuffer → Timestamp → List Entry
taken_of b s = filter_b (due_of s) (held b)

-- the buffer that such a drain leaves
unfoldable pub rest_of : CommandBuffer → Timestamp → CommandBuffer
rest_of b s = leaving (taken_of b s) (filter_b (λ e. not (due_of s e)) (held b)) b

-- a drain up to s, with the number of entries that it takes
abbrev pub drained_of : CommandBuffer → Timestamp → Drained
drained_of b s = record { buffer = rest_of b s; count = length (taken_of b s) }

-- the buffer that a drain of everything leaves
unfoldable pub emptied_of : CommandBuffer → CommandBuffer
emptied_of b = leaving (held b) [] b

-- a drain of everything, with the number of entries that it takes
abbrev pub drained_all_of : CommandBuffer → Drained
drained_all_of b = record { buffer = emptied_of b; count = length (held b) }

-- the words of commands applied to a side, in their order
unfoldable pub command_words : ℕ → List Entry → List ℕ
command_words side xs = map (λ e. command_word side (handle_in e)) xs

-- a drain up to s to the tape `was`: what is left, the next place, and the command words of what is taken
pub record Applies (b : CommandBuffer) (s : Timestamp) (side : ℕ) (was : Tape) (left : CommandBuffer) (now : Tape) : Type 0 where
  pub buffer : left ≡ rest_of b s
  pub at : now.at ≡ was.at + length (taken_of b s)
  pub tape : now.words.now ≡ written was.words.now was.at (command_words side (taken_of b s))
  pub lent : now.words.ghost_name ≡ was.words.ghost_name

-- the same for a drain of everything
pub record AppliesAll (b : CommandBuffer) (side : ℕ) (was : Tape) (left : CommandBuffer) (now : Tape) : Type 0 where
  pub buffer : left ≡ emptied_of b
  pub at : now.at ≡ was.at + length (held b)
  pub tape : now.words.now ≡ written was.words.now was.at (command_words side (held b))
  pub lent : now.words.ghost_name ≡ was.words.ghost_name
