-- `publish_side` meets its contract: the word of the side, and the state of its stamp. Assumes nothing.
use Rattle.client_publish.proofs.Showing.{side_states}
use Rattle.client_publish.proofs.publish_side.Goals as goal

pub returns : goal.returns
returns c =
    side_states _ _ c.get_side.ensures c.stamp-stamp.ensures c.publish_word.ensures c.put.ensures
