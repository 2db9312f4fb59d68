-- `receive_commands` meets its contract: what the messages that are left make of the scene gives what the whole gives. Assumes nothing.
use Rattle.std.proofs.Common.{ap, ◌∙◌, rules}
use Rattle.inbox.specs.Reader.{left_in}
use Rattle.inbox_passes.proofs.Receiving.{receive_start}
use Rattle.inbox_passes.proofs.receive_commands.Goals as goal

pub loop-message-init : goal.loop-message-init
loop-message-init c = (
  receive_start c.args.words.now c.args.scene.now c.args.full (ap left_in c.into_iter-message-iterator.ensures.into_iter_gives ∙ search rules),
  search rules,
)
