-- `push` meets its contract: fewer samples than are stored, and as many. Assumes nothing.
use borrow.Author.Rules.{rules}
use mathlib.Core.Path.{◌≡◌, refl, sym, ap, ◌∙◌}
use Prim.Native.Nat.{ℕ, ◌+◌, ◌-◌}
use native.Mathlib.Omega.{arith}
use lib.ListN.{length, take, drop, set}
use Rattle.std.proofs.lemmas.List.{drop-take}
use Rattle.clocksync.specs.Clock.{laid_out}
use Rattle.clocksync.proofs.Samples.{added_few, added_full, pushed_is}
use Rattle.clocksync.proofs.Clock.push.Goals as goal

pub returns-then-count-samples_to_store : goal.returns-then-count-samples_to_store
returns-then-count-samples_to_store c =
    let a = c.args in
    let full : length a.self.now.samples ≡ 64 = search rules in
    pushed_is a.settings a.self.now a.x (added_few a.settings a.self.now a.x full c.min-n.ensures c.laid-self.ensures
    c.samples_to_store.ensures c.if-count-samples_to_store.true)

pub returns : goal.returns
returns c =
    let a = c.args in
    let full : length a.self.now.samples ≡ 64 = search rules in
    let n = c.min-n.result in
    let all = set c.laid-self.result n a.x in
    let m : n + 1 - 1 ≡ n = omega arith in
    let l : 1 + n ≡ n + 1 = omega arith in
    let rest : take n (drop 1 all) ≡ drop 1 (take (n + 1) all) = sym (drop-take 1 n all) ∙ ap (λ (k : ℕ). drop 1 (take k all)) l in
    pushed_is a.settings a.self.now a.x (added_full a.settings a.self.now a.x full c.min-n.ensures c.laid-self.ensures
    c.samples_to_store.ensures c.if-count-samples_to_store.false refl refl refl
    (c.laid-self-2.ensures ∙ ap laid_out (ap (λ (k : ℕ). take k (drop 1 all)) m ∙ rest)))
