-- `publish_mix` meets its contract: the words of the mix, and the state of the old stamp. Assumes nothing.
use Rattle.client_publish.proofs.Showing.{mix_states}
use Rattle.client_publish.proofs.publish_mix.Goals as goal

pub returns : goal.returns
returns c =
    mix_states _ _ c.last_completed_timestamp-stamp.ensures c.put_mix.ensures
