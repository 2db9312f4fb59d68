-- `mean_of` meets its contract: sorted, cut at both ends, summed and divided. Assumes nothing.
use Rattle.std.proofs.Common.{ap, ◌∙◌}
use Rattle.mean.specs.Mean.{sorted_of}
use Rattle.mean.proofs.Means.{mean_is}
use Rattle.mean.proofs.mean_of.Goals as goal

pub returns : goal.returns
returns c =
    mean_is c.args.samples.now c.args.discard c.min-n.ensures (c.insertion_sort.ensures ∙ ap sorted_of c.copy_from_slice.ensures.after)
    c.saturating_sub-end.ensures c.min-start.ensures c.sum-sum.ensures c.nearest_usize_to_f64.ensures
