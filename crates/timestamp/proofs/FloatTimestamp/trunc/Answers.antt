-- `trunc` meets its contract: the fraction's bits are cleared, which changes no stamp. Assumes nothing.
use Rattle.std.proofs.Common.{T, ap, ◌∙◌, to_z-of_z, w16, SFits, rules}
use lib.Ieee.{binary64, fits, to_signed}
use Rattle.timestamp.specs.Timestamps.{bits_of}
use Rattle.timestamp.specs.FloatTimestamps.{stamp_of}
use Rattle.timestamp.proofs.Whole.{cut_again}
use Rattle.timestamp.proofs.FloatTimestamp.trunc.Goals as goal

pub returns : goal.returns
unfolding stamp_of
returns c =
    let held : T (fits binary64 c.args.self.0) = search rules in
    let narrow : SFits w16 c.saturating_f64_to_i16.result = search rules in
    c.from.ensures
    ∙ ap bits_of (to_z-of_z {w = w16} narrow ∙ c.saturating_f64_to_i16.ensures ∙ ap (to_signed 15) c.trunc.ensures ∙ cut_again 15 c.args.self.0 held)
