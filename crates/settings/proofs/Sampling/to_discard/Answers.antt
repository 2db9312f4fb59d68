-- `to_discard` meets its contract: the operations in the definition's order. Assumes nothing.
use Rattle.std.proofs.Common.{ap, ◌∙◌}
use lib.Ieee.{Float, binary64, mul, div, of_bits, to_unsigned}
use Rattle.timestamp.specs.Floats.{two64}
use Rattle.timestamp.specs.Whole.{ceil_of}
use Rattle.settings.specs.Settings.{at_least_one, discard_of}
use Rattle.settings.proofs.Sampling.to_discard.Goals as goal

pub returns : goal.returns
unfolding discard_of of_bits
returns c =
    c.from-2.ensures
    ∙ c.saturating_f64_to_u16.ensures
    ∙ ap (to_unsigned 16) (c.ceil.ensures ∙ ap ceil_of (c.at_least_one.ensures
    ∙ ap (λ (x : Float). at_least_one (div binary64 (mul binary64 x c.args.self.rate) two64)) c.from.ensures))
