-- `all_sound` meets its contract: the test of each is the test of all. Assumes nothing.
use Rattle.std.proofs.Common.{sym, ◌∙◌, rules}
use borrow.Author.Tests.{tests}
use Rattle.std.proofs.lemmas.Iterator.{YieldsList-from_slice}
use Rattle.std.proofs.lemmas.Iterator.Search.{all_from_yields_List}
use Rattle.timestamp.specs.Floats.{sample_ok}
use Rattle.mean.proofs.Lists.{samples_all}
use Rattle.mean.proofs.all_sound.Goals as goal

pub returns : goal.returns
returns c =
    all_from_yields_List (λ x. sample_ok x) _ _ c.all.result c.all.ensures.ran (YieldsList-from_slice c.args.samples.now cc)
    (λ x b q k. search (rules, tests))
    ∙ sym (samples_all c.args.samples.now)
