-- The reader of an inbox, as document 01 has it under "Which form belongs where": it keeps the caller's words and a position.
-- Definitions only. Assumes nothing.
use Rattle.std.specs.Prelude.{ℕ, List, drop}
use Rattle.std.specs.Borrow.{Bor}
use Rattle.inbox.specs.declared.reader.Reader.{Reader}
use Rattle.inbox.specs.Inbox.{Reading, messages_of}

-- a reader of the words at a position
abbrev pub reader_at : Bor (List ℕ) → ℕ → Reader
reader_at words at = record { words = words; at = at }

-- the messages that a reader has left: those of the words from its position on
abbrev pub left_in : Reader → List Reading
left_in r = messages_of (drop r.at r.words.now)
