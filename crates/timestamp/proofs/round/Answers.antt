-- `round` meets its contract: what is left of the value is exact, and is compared with a half. Assumes nothing.
use Rattle.std.proofs.Common.{◌≡◌, true, false, T, sym, ap, ◌∙◌, subst}
use lib.Ieee.{Float, binary64, fits, le, add, sub, neg, of_bits}
use Rattle.timestamp.proofs.Whole.{one64}
use Rattle.timestamp.proofs.Nearer.{half, minus_half, up_half, down_half, no_way}
use Rattle.timestamp.proofs.round.Goals as goal
use Rattle.timestamp.proofs.round.Goals.{Start}

held : (c : Start) → T (fits binary64 c.args.x)
held c = subst T (sym c.well_formed.0.1) tt

pub returns-then-d : goal.returns-then-d
unfolding of_bits
returns-then-d c =
    let x = c.args.x in
    let e = c.trunc-t.ensures in
    ap (λ (y : Float). add binary64 y one64) e ∙ up_half x (held c.before.before)
    (subst (λ (y : Float). le half (sub binary64 x y) ≡ true) e c.if-d.true)

pub returns-then-d-2 : goal.returns-then-d-2
unfolding of_bits neg
returns-then-d-2 c =
    let x = c.args.x in
    let e = c.trunc-t.ensures in
    ap (λ (y : Float). sub binary64 y one64) e ∙ down_half x (held c.before.before.before)
    (subst (λ (y : Float). le (sub binary64 x y) minus_half ≡ true) e c.if-d-2.true)

pub returns : goal.returns
unfolding of_bits neg
returns c =
    let x = c.args.x in
    let e = c.trunc-t.ensures in
    e
    ∙ no_way x (held c.before.before.before) (subst (λ (y : Float). le half (sub binary64 x y) ≡ false) e c.if-d.false)
    (subst (λ (y : Float). le (sub binary64 x y) minus_half ≡ false) e c.if-d-2.false)
