-- `receive_commands`: what the messages that are left make of the scene gives what the whole gives. Assumes nothing.
use Rattle.client_receive.specs.Inner.{Known}
use Rattle.inbox.specs.Reader.{left_in}
use Rattle.inbox_passes.proofs.Receiving.{Receiving}
use Rattle.inbox_passes.proofs.receive_commands.Given as goal

abbrev pub invariant-loop-message : goal.invariant-loop-message
invariant-loop-message l =
    Receiving l.words (record { scene = l.fn.scene; full = l.full }) (left_in l.message-iterator) l.scene l.filled × Known l.tidy l.scene.worlds
