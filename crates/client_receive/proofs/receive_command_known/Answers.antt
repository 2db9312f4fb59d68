-- `receive_command_known` meets its contract: the base and both worlds are offered the command, and a full one of the three is told. Assumes nothing.
use Rattle.std.proofs.Common.{ap, ◌∙◌}
use Rattle.client.specs.Ledgers.{takes}
use Rattle.client_receive.proofs.Arrivals.{received_is}
use Rattle.client_receive.proofs.receive_command_known.Goals as goal

pub returns-clause-received : goal.returns-clause-received
returns-clause-received c =
    received_is c.args.scene.now c.args.entry c.insert_known-base.ensures.inserted c.schedule_known-left.ensures.scheduled
    c.schedule_known-right.ensures.scheduled
    (c.count_taken.ensures ∙ ap (takes _) c.taken.ensures) (c.count_taken-2.ensures ∙ ap (takes _) c.taken-2.ensures) c.any_full.ensures
