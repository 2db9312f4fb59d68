-- `insertion_sort` meets its contract: one more sample is inserted each turn. Assumes nothing.
use Rattle.std.proofs.Common.{refl}
use Rattle.mean.specs.Mean.{sorted_onto, sorted_of}
use Rattle.mean.proofs.Lists.{sorted_more}
use Rattle.mean.proofs.insertion_sort.Goals as goal

pub loop-i-init : goal.loop-i-init
unfolding sorted_of sorted_onto
loop-i-init c = refl

pub loop-i-preserved : goal.loop-i-preserved
loop-i-preserved c = sorted_more c.args.samples.now c.loop-i.samples c.loop-i.i c.loop-i-test.true c.loop-i.invariant c.insert.ensures
