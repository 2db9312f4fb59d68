-- `clear` meets its contract: the rest is filled with zeros, and past the end there is none. Assumes nothing.
use mathlib.Core.Path.{sym}
use Rattle.tape.proofs.Writing.{cleared_filled, cleared_end}
use Rattle.tape.proofs.clear.Goals as goal

pub returns-then-from-tape : goal.returns-then-from-tape
returns-then-from-tape c = cleared_filled _ _ c.if-from-tape.true (c.fill.ensures.after (λ y h. h))

pub returns-else-from-tape : goal.returns-else-from-tape
returns-else-from-tape c = sym (cleared_end _ _ c.if-from-tape.false)
