-- An entry of a command buffer. Document 01 orders entries by their stamps, "src/command.rs", and a command is a handle of 24 bits: an entry is one word of 64
-- bits, the stamp times 2 ^ 32 and the handle. Definitions only. Assumes nothing.
use Rattle.std.specs.Prelude.{ℕ, ◌+◌, ◌*◌, ◌/◌, ◌%◌, ◌^◌, Bool, ◌&&◌, ltb}
use Rattle.refusals.specs.Limits.{handle_room}
use Rattle.timestamp.specs.declared.Timestamp.{Timestamp}

-- a word of 64 bits
abbrev pub Entry : Type 0
Entry = ℕ

-- the entry of a command for the frame of a stamp
unfoldable pub entry_of : Timestamp → ℕ → Entry
entry_of t handle = t.0 * 2 ^ 32 + handle

-- the stamp of an entry: bits 32 to 47
unfoldable pub stamp_in : Entry → ℕ
stamp_in e = e / 2 ^ 32 % 2 ^ 16

-- the handle of an entry: bits 0 to 31
unfoldable pub handle_in : Entry → ℕ
handle_in e = e % 2 ^ 32

-- the handle is within 24 bits, and the bits above the stamp are 0: no bit is set that names nothing
unfoldable pub plain_entry : Entry → Bool
plain_entry e = ltb e (2 ^ 48) && ltb (handle_in e) handle_room
