-- `kadwunge_frame_stamp` meets its contract: the two tests in their order, and then the stamp's value. Assumes nothing.
use Rattle.std.proofs.Common.{◌≡◌, arith}
use Rattle.std.proofs.lemmas.Grind.{common_steps}
use lib.Ieee.{Float, of_bits, neg}
use lib.Ieee.Casts.{to_signed_in}
use Rattle.timestamp.specs.Timestamps.{signed_of, bits_of}
use Rattle.timestamp.specs.FloatTimestamps.{stamp_of}
use Rattle.timestamp.proofs.Signed.{signed_bits}
use Rattle.host.specs.Host.{frame_stamp_of}
use Rattle.host.proofs.kadwunge_frame_stamp.Goals as goal

-- a stamp's bits read back
signed_stamp : (x : Float) → signed_of (bits_of (stamp_of x)) ≡ stamp_of x
unfolding stamp_of
signed_stamp x = signed_bits (stamp_of x) (record { sfits = to_signed_in 15 x })

pub returns-then-not-within : goal.returns-then-not-within
unfolding frame_stamp_of of_bits neg
returns-then-not-within c = grind (arith, common_steps)

pub returns-then-not-within-2 : goal.returns-then-not-within-2
unfolding frame_stamp_of of_bits neg
returns-then-not-within-2 c = grind (arith, common_steps)

pub returns : goal.returns
unfolding frame_stamp_of of_bits neg
returns c = grind (arith, common_steps, signed_stamp)
