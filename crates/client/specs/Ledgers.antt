-- The ledger of a side, as document 01 has it under "src/client.rs": what each count is, and how it goes on. A count that is added goes into these definitions
-- and into the functions of ledgers.rt, and nowhere else.
-- Definitions only. Assumes nothing.
use Rattle.std.specs.Prelude.{ℕ, ◌+◌, ◌%◌, ◌^◌, length}
use Rattle.command.specs.declared.CommandBuffer.{CommandBuffer}
use Rattle.command.specs.Buffer.{held}
use Rattle.client.specs.declared.Ledger.{Ledger}

-- a ledger with nothing in it
abbrev pub empty_ledger : Ledger
empty_ledger = record { held = 0; taken = 0; copied = 0; replaced = 0; applied = 0; leftout = 0 }

-- the ledger with so many held
abbrev pub with_held : Ledger → ℕ → Ledger
with_held l n = record { held = n; taken = l.taken; copied = l.copied; replaced = l.replaced; applied = l.applied; leftout = l.leftout }

-- with so many taken
abbrev pub with_taken : Ledger → ℕ → Ledger
with_taken l n = record { held = l.held; taken = n; copied = l.copied; replaced = l.replaced; applied = l.applied; leftout = l.leftout }

-- with so many applied and left out
abbrev pub with_applied : Ledger → ℕ → ℕ → Ledger
with_applied l n k = record { held = l.held; taken = l.taken; copied = l.copied; replaced = l.replaced; applied = n; leftout = k }

-- with so many copied, replaced and left out
abbrev pub with_loaded : Ledger → ℕ → ℕ → ℕ → Ledger
with_loaded l c r k = record { held = l.held; taken = l.taken; copied = c; replaced = r; applied = l.applied; leftout = k }

-- a count with some more, as 64 bits have it; that none ever wraps is a law
abbrev pub counted : ℕ → ℕ → ℕ
counted a n = (a + n) % 2 ^ 64

-- a ledger with so many more taken
abbrev pub takes : Ledger → ℕ → Ledger
takes l n = with_taken l (counted l.taken n)

-- a ledger with so many more applied and left out
abbrev pub applies : Ledger → ℕ → ℕ → Ledger
applies l n k = with_applied l (counted l.applied n) (counted l.leftout k)

-- a ledger with so many more copied, replaced and left out
abbrev pub loads : Ledger → ℕ → ℕ → ℕ → Ledger
loads l c r k = with_loaded l (counted l.copied c) (counted l.replaced r) (counted l.leftout k)

-- a ledger with what its side holds after the call
abbrev pub closed_of : Ledger → CommandBuffer → Ledger
closed_of l b = with_held l (length (held b))
