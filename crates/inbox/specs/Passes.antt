-- The order in which an inbox is read, as document 01 has it under "Inbox and tape": clock messages first, then commands, then snapshots.
-- A pass is a fold over the messages, in their order, that leaves its state alone at those of other kinds.
-- Definitions only. Assumes nothing.
use Rattle.std.specs.Prelude.{List, fold}
use Rattle.inbox.specs.Inbox.{Reading}

-- the state after all messages of a list, each taken by g, in their order
abbrev pub over : {A : Type 0} → (A → Reading → A) → A → List Reading → A
over g a ms = fold g a ms
