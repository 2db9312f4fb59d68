-- `step_side_known` meets its contract: the side decides. Assumes nothing.
use Rattle.std.proofs.Common.{rules}
use Rattle.client.specs.Sides.{world_of, with_world, ledger_of, with_ledger, put_of, done_at}
use Rattle.client.proofs.Scene.step_side_known.Goals as goal

pub returns-in-Left-clause-plays : goal.returns-in-Left-clause-plays
unfolding done_at put_of with_world with_ledger ledger_of world_of
returns-in-Left-clause-plays c = search rules

pub returns-in-Right-clause-plays : goal.returns-in-Right-clause-plays
unfolding done_at put_of with_world with_ledger ledger_of world_of
returns-in-Right-clause-plays c = search rules
