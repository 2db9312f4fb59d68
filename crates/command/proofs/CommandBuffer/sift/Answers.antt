-- `sift` meets its contract: where none go the buffer stays as it is, and else what stays is laid out anew. Assumes nothing.
use native.Mathlib.Omega.{arith}
use borrow.Author.Rules.{rules}
use mathlib.Core.List.{[]}
use Rattle.command.proofs.Holding.{laid_then}
use Rattle.command.proofs.Calls.{room_kept, sifted_none, sifted_some}
use Rattle.command.proofs.CommandBuffer.sift.Goals as goal

pub extend-requires : goal.extend-requires
extend-requires c = room_kept _ (search rules) c.new.ensures

pub returns-then-count-gt0 : goal.returns-then-count-gt0
returns-then-count-gt0 c =
    sifted_some _ _ _ _ c.count_outside-count.ensures (λ e. omega (arith, c.if-count-gt0.true, e))
    (laid_then [] _ _ c.new.ensures c.extend.ensures)

pub returns-else-count-gt0 : goal.returns-else-count-gt0
returns-else-count-gt0 c =
    sifted_none _ _ _ _ c.count_outside-count.ensures (omega (arith, c.if-count-gt0.false))
