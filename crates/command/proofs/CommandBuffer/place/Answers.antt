-- `place` meets its contract: the entry stands after all that are not later. Assumes nothing.
use borrow.Author.Rules.{rules}
use mathlib.Core.Path.{refl}
use mathlib.Core.List.{[]}
use native.Mathlib.Omega.{arith}
use Rattle.command.specs.Entries.{stamp_in}
use Rattle.command.proofs.Holding.{laid_then}
use Rattle.command.proofs.Ranks.{rank_lt}
use Rattle.command.proofs.Calls.{room_kept, room_for, room_after, placed_is}
use Rattle.command.proofs.CommandBuffer.place.Goals as goal

pub overflow_add-next : goal.overflow_add-next
overflow_add-next c = omega (arith, c.rank_in-next.ensures, rank_lt c.args.self.now.timestamp.0 (stamp_in c.args.entry))

pub extend-requires : goal.extend-requires
extend-requires c = room_kept _ (search rules) c.new.ensures

pub push-requires : goal.push-requires
push-requires c = room_for _ c.args.entry c.requires _ (laid_then [] _ _ c.new.ensures c.extend.ensures)

pub extend-requires-2 : goal.extend-requires-2
extend-requires-2 c = room_after _ c.args.entry c.requires _ (laid_then _ _ _ (laid_then [] _ _ c.new.ensures c.extend.ensures) c.push.ensures)

pub returns : goal.returns
returns c =
    placed_is _ c.args.entry (omega (arith, c.rank_in-next.ensures)) refl refl
    (laid_then _ _ _ (laid_then _ _ _ (laid_then [] _ _ c.new.ensures c.extend.ensures) c.push.ensures) c.extend-2.ensures)
