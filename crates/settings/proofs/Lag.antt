-- The lag in frames: a signed number of 16 bits, held to 16,383 by a test on its value, and not negative where the lag is not. Assumes nothing.
use Rattle.std.proofs.Common.{◌≡◌, ℤ, ap, ◌∙◌, to_z-of_z, w16, SFits, to_z, of_z}
use lib.Signed.{le_z}
use lib.Ieee.{Float}
use lib.Ieee.Casts.{to_signed_in}
use Rattle.timestamp.specs.FloatTimestamps.{stamp_of}
use Rattle.timestamp.specs.Whole.{round_of}
use Rattle.settings.specs.Settings.{lag_frames_of}

-- it is a signed number of 16 bits
pub lag_fits : (lag timestep : Float) → SFits w16 (lag_frames_of lag timestep)
unfolding lag_frames_of stamp_of
lag_fits lag timestep = record { sfits = to_signed_in 15 (round_of _) }

-- the value that the test reads is the number
pub lag_tested : (lag timestep : Float) {x : ℤ} (most : ℤ) → x ≡ lag_frames_of lag timestep
    → le_z (to_z w16 (of_z w16 x)) most ≡ le_z (lag_frames_of lag timestep) most
lag_tested lag timestep most e =
    ap (λ (y : ℤ). le_z (to_z w16 (of_z w16 y)) most) e ∙ ap (λ (y : ℤ). le_z y most) (to_z-of_z {w = w16} (lag_fits lag timestep))
