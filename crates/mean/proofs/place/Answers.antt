-- `place` meets its contract: the first greater sample, or the end. Assumes nothing.
use Rattle.std.proofs.Common.{◌≡◌, rules, arith}
use borrow.Author.Tests.{tests}
use Rattle.std.specs.List.{position}
use Rattle.std.proofs.lemmas.Iterator.{YieldsList-from_slice}
use Rattle.std.proofs.lemmas.Iterator.Search.{position_from_yields_List}
use lib.Ieee.{lt}
use Rattle.mean.specs.Mean.{place_of}
use Rattle.mean.proofs.Lists.{placed, place_most}
use Rattle.mean.proofs.place.Goals as goal

pub returns : goal.returns
returns c =
    let at : c.position.result ≡ position (λ y. lt c.args.x y) c.args.samples.now =
    position_from_yields_List (λ y. lt c.args.x y) _ _ c.position.result c.position.ensures.ran (YieldsList-from_slice c.args.samples.now cc)
    (λ x b q k. search (rules, tests)) in
    let place : c.unwrap_or.result ≡ place_of c.args.x c.args.samples.now = placed c.args.x c.args.samples.now at c.unwrap_or.ensures in
    record { place = place; bound = omega (arith, place, place_most c.args.x c.args.samples.now) }
