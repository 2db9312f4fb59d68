-- `read_floats` meets its contract: the floats of the words passed stand at the slice's front. Assumes nothing.
use Rattle.std.proofs.Common.{◌≡◌, map, take}
use Rattle.host.specs.Inner.{float_in}
use Rattle.host.proofs.read_floats.Given as goal

abbrev pub invariant-loop-i : goal.invariant-loop-i
invariant-loop-i l = take l.i l.out ≡ map float_in (take l.i l.words)
