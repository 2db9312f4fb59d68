-- `insertion_sort` meets its contract: those passed are in order, and those after them as they were. Assumes nothing.
use Rattle.std.proofs.Common.{◌≡◌, ◌++◌, take, drop}
use Rattle.mean.specs.Mean.{sorted_of}
use Rattle.mean.proofs.insertion_sort.Given as goal

abbrev pub invariant-loop-i : goal.invariant-loop-i
invariant-loop-i l = l.samples ≡ sorted_of (take l.i l.initial.samples) ++ drop l.i l.initial.samples
