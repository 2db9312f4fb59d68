-- An insertion into the slots of a tidy buffer, which are lent: what it asks of them and what it leaves in them.
-- Definitions only. Assumes nothing.
use Rattle.std.specs.Prelude.{ℕ, ◌+◌, ◌<◌, true, List, ◌≡◌, length}
use Rattle.refusals.specs.Limits.{buffer_room}
use Rattle.timestamp.specs.declared.Timestamp.{Timestamp}
use Rattle.command.specs.Entries.{Entry}
use Rattle.command.specs.declared.CommandBuffer.{CommandBuffer}
use Rattle.command.specs.Buffer.{held, laid, placed_of}
use Rattle.command.specs.Soundness.{tidy_of}

-- the buffer whose slots are e, with n entries and the midpoint t
abbrev pub buffer_at : List Entry → ℕ → Timestamp → CommandBuffer
buffer_at e n t = record { entries = e; len = n; timestamp = t }

-- a tidy buffer has a slot for one entry more
pub record HasPlace (e : List Entry) (n : ℕ) (t : Timestamp) : Type 0 where
  pub slots : length e ≡ buffer_room
  pub tidy : tidy_of (buffer_at e n t) ≡ true
  pub few : n < buffer_room

-- the entry x has its place among those that the slots `was` held
pub record Placed (was : List Entry) (n : ℕ) (t : Timestamp) (x : Entry) (last : List Entry) : Type 0 where
  pub buffer : buffer_at last (n + 1) t ≡ laid (placed_of t x (held (buffer_at was n t))) t
  pub slots : length last ≡ buffer_room
