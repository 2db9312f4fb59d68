-- `floor` meets its contract: one more in size where the whole part is short of the value on that side. Assumes nothing.
use Rattle.std.proofs.Common.{◌≡◌, true, false, T, sym, ap, ◌∙◌, subst}
use lib.Ieee.{Float, binary64, fits, lt, sub, of_bits}
use Rattle.timestamp.proofs.Whole.{one64, floor_more, floor_same}
use Rattle.timestamp.proofs.floor.Goals as goal
use Rattle.timestamp.proofs.floor.Goals.{Start}

held : (c : Start) → T (fits binary64 c.args.x)
held c = subst T (sym c.well_formed.0.1) tt

pub returns-then-x-t : goal.returns-then-x-t
unfolding of_bits
returns-then-x-t c =
    let x = c.args.x in
    let e = c.trunc-t.ensures in
    ap (λ (y : Float). sub binary64 y one64) e ∙ floor_more x (held c.before.before) (subst (λ (y : Float). lt x y ≡ true) e c.if-x-t.true)

pub returns-else-x-t : goal.returns-else-x-t
returns-else-x-t c =
    let x = c.args.x in
    let e = c.trunc-t.ensures in
    e ∙ floor_same x (held c.before.before) (subst (λ (y : Float). lt x y ≡ false) e c.if-x-t.false)
