-- `apply_all` meets its contract: every rank lies below 65,536, so the words of all entries are put. Assumes nothing.
use mathlib.Core.Path.{refl}
use Rattle.tape.specs.Sides.{side_number}
use Rattle.command.proofs.Calls.{applies_all_is}
use Rattle.command.specs.Ranks.{rank_within}
use Rattle.command.proofs.Applying.{applied_few}
use Rattle.command.proofs.CommandBuffer.apply_all.Goals as goal

pub returns-clause-applied : goal.returns-clause-applied
returns-clause-applied c = applies_all_is _ _ refl refl (rw c.held.ensures.held at c.apply_between.ensures) c.drain_all.ensures

pub returns-clause-few : goal.returns-clause-few
returns-clause-few c = applied_few (side_number c.args.side) (rank_within c.args.self.now.timestamp 0 65536) _ c.apply_between.ensures c.held.ensures.few
