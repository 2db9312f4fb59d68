-- `offset_with` meets its contract: fewer samples than are stored, and as many. Assumes nothing.
use borrow.Author.Rules.{rules}
use mathlib.Core.Path.{◌≡◌, refl, ap}
use lib.ListN.{length}
use Rattle.clocksync.specs.declared.Clock.{Clock}
use Rattle.clocksync.proofs.Samples.{added_few, added_full}
use Rattle.clocksync.proofs.Clock.offset_with.Goals as goal

pub returns-then-count-samples_to_store : goal.returns-then-count-samples_to_store
returns-then-count-samples_to_store c =
    let a = c.args in
    let full : length a.self.now.samples ≡ 64 = search rules in
    ap (λ (k : Clock). k.offset) (added_few a.settings a.self.now a.x full c.min-n.ensures c.laid-all.ensures
    c.samples_to_store.ensures c.if-count-samples_to_store.true)

pub returns : goal.returns
returns c =
    let a = c.args in
    let full : length a.self.now.samples ≡ 64 = search rules in
    ap (λ (k : Clock). k.offset) (added_full a.settings a.self.now a.x full c.min-n.ensures c.laid-all.ensures
    c.samples_to_store.ensures c.if-count-samples_to_store.false c.samples_to_discard.ensures c.mean_of-mean.ensures c.synced.ensures refl)
