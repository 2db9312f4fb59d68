-- `publish_none` meets its contract: the word of nothing, and the state. Assumes nothing.
use Rattle.client_publish.proofs.Showing.{none_states}
use Rattle.client_publish.proofs.publish_none.Goals as goal

pub returns : goal.returns
returns c = none_states _ c.none_word.ensures c.put.ensures
