-- `post_update` meets its contract. `search` finds it too; it is answered so that a wrong program is refused at an equation, and not at a limit of `search`.
-- Assumes nothing.
use Rattle.client_publish.proofs.Displaying.{post_is}
use Rattle.client_publish.proofs.ending.post_update.Goals as goal

pub returns : goal.returns
returns c =
    post_is c.args.worlds.now c.args.t c.args.lag c.last_completed_timestamp-old.ensures c.displayed-worlds.ensures c.update_timestamp.ensures
    c.revised-worlds.ensures
