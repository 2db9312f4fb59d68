-- `sum` meets its contract: the fold is the sum. Assumes nothing.
use Rattle.std.proofs.Common.{sym, ◌∙◌, rules}
use borrow.Author.Tests.{tests}
use Rattle.std.proofs.lemmas.Iterator.{YieldsList-from_slice}
use Rattle.std.proofs.lemmas.Iterator.Consumers.{fold_from_yields_List}
use lib.Ieee.{binary64, add, of_bits}
use Rattle.timestamp.specs.Floats.{zero64}
use Rattle.mean.proofs.Lists.{sum_folds}
use Rattle.mean.proofs.sum.Goals as goal

pub returns : goal.returns
unfolding of_bits
returns c =
    fold_from_yields_List _ (λ s x. add binary64 s x) zero64 c.fold.result c.fold.ensures.ran (YieldsList-from_slice c.args.samples.now cc)
    (λ a x b q k. search (rules, tests))
    ∙ sym (sum_folds zero64 c.args.samples.now)
