-- `ceil` meets its contract: one more in size where the whole part is short of the value on that side. Assumes nothing.
use Rattle.std.proofs.Common.{◌≡◌, true, false, T, sym, ap, ◌∙◌, subst}
use lib.Ieee.{Float, binary64, fits, lt, add, of_bits}
use Rattle.timestamp.proofs.Whole.{one64, ceil_more, ceil_same}
use Rattle.timestamp.proofs.ceil.Goals as goal
use Rattle.timestamp.proofs.ceil.Goals.{Start}

held : (c : Start) → T (fits binary64 c.args.x)
held c = subst T (sym c.well_formed.0.1) tt

pub returns-then-t-x : goal.returns-then-t-x
unfolding of_bits
returns-then-t-x c =
    let x = c.args.x in
    let e = c.trunc-t.ensures in
    ap (λ (y : Float). add binary64 y one64) e ∙ ceil_more x (held c.before.before) (subst (λ (y : Float). lt y x ≡ true) e c.if-t-x.true)

pub returns-else-t-x : goal.returns-else-t-x
returns-else-t-x c =
    let x = c.args.x in
    let e = c.trunc-t.ensures in
    e ∙ ceil_same x (held c.before.before) (subst (λ (y : Float). lt y x ≡ false) e c.if-t-x.false)
