-- `apply_up_to` meets its contract: the words of the entries that rank at most 32,768 around the stamp, and what stays. Assumes nothing.
use mathlib.Core.Path.{refl}
use Rattle.tape.specs.Sides.{side_number}
use Rattle.command.proofs.Calls.{applies_is}
use Rattle.command.specs.Ranks.{rank_within}
use Rattle.command.proofs.Applying.{applied_few}
use Rattle.command.proofs.CommandBuffer.apply_up_to.Goals as goal

pub returns-clause-applied : goal.returns-clause-applied
returns-clause-applied c = applies_is _ _ refl refl (rw c.held.ensures.held at c.apply_between.ensures) c.drain_up_to.ensures

pub returns-clause-few : goal.returns-clause-few
returns-clause-few c = applied_few (side_number c.args.side) (rank_within c.args.s 0 32769) _ c.apply_between.ensures c.held.ensures.few
