-- `sample_sound` meets its contract. Assumes nothing.
use lib.Ieee.{of_bits, neg}
use Rattle.mean.proofs.sample_sound.Goals as goal

pub returns : goal.returns
unfolding of_bits neg
returns c = c.within.ensures
