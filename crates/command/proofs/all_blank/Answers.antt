-- `all_blank` meets its contract: the test of each is the test of all. Assumes nothing.
use Rattle.std.proofs.Common.{sym, ◌∙◌, rules}
use borrow.Author.Tests.{tests}
use Rattle.std.specs.Prelude.{eqb}
use Rattle.std.proofs.lemmas.Iterator.{YieldsList-from_slice}
use Rattle.std.proofs.lemmas.Iterator.Search.{all_from_yields_List}
use Rattle.command.specs.Buffer.{blank}
use Rattle.command.proofs.Tidy.{blank_all}
use Rattle.command.proofs.all_blank.Goals as goal

pub returns : goal.returns
returns c =
    all_from_yields_List (λ x. eqb x blank) _ _ c.all.result c.all.ensures.ran (YieldsList-from_slice c.args.slots.now cc)
    (λ x b q k. search (rules, tests))
    ∙ sym (blank_all c.args.slots.now)
