-- `from_unwrapped` meets its contract: each arm is what the definition picks where the test is as the arm found it. Assumes nothing.
use Rattle.std.proofs.Common.{Bool, cond, sym, ap, ◌∙◌}
use lib.Ieee.{Float, binary64, add, sub, lt, of_bits}
use Rattle.timestamp.specs.Floats.{zero64}
use Rattle.timestamp.specs.FloatTimestamps.{from_unwrapped, half64, cycle64}
use Rattle.timestamp.proofs.FloatTimestamp.from_unwrapped.Goals as goal

-- of a remainder, by the answer of its test
abbrev picked : Float → Bool → Float
picked r t = sub binary64 (cond t (add binary64 r cycle64) r) half64

pub returns-then-r : goal.returns-then-r
unfolding from_unwrapped of_bits
returns-then-r c =
    sym (ap (λ (t : Bool). picked c.remainder-r.result t) c.if-r.true) ∙ ap (λ (r : Float). picked r (lt r zero64)) c.remainder-r.ensures

pub returns-else-r : goal.returns-else-r
unfolding from_unwrapped of_bits
returns-else-r c =
    sym (ap (λ (t : Bool). picked c.remainder-r.result t) c.if-r.false) ∙ ap (λ (r : Float). picked r (lt r zero64)) c.remainder-r.ensures
