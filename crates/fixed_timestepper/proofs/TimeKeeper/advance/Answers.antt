-- `advance` meets its contract. Assumes nothing.
use native.Mathlib.Omega.{arith}
use mathlib.Core.Path.{◌≡◌, refl}
use lib.Ieee.{of_bits}
use Rattle.fixed_timestepper.proofs.Running.{full_whole, done_whole, running_done, running_stops, running_on, framed_as}
use Rattle.fixed_timestepper.proofs.TimeKeeper.advance.Goals as goal
use Rattle.fixed_timestepper.proofs.TimeKeeper.advance.Goals.{then-o, else-o}

pub returns-then-not-o-clause-advances : goal.returns-then-not-o-clause-advances
unfolding of_bits
returns-then-not-o-clause-advances c = running_done _ _ _ c.loop-n.invariant c.if-not-o.true

pub returns-then-stops-clause-advances : goal.returns-then-stops-clause-advances
unfolding of_bits
returns-then-stops-clause-advances c =
    running_stops _ _ _ c.loop-n.invariant c.if-not-o.false c.loop-n-test.true
    (framed_as c.args.self.settings _ c.frame_rules-rules.ensures c.step-stops.ensures.frames) c.step-stops.ensures.few c.if-stops.true refl

pub loop-n-preserved : goal.loop-n-preserved
unfolding of_bits
loop-n-preserved c =
    running_on _ _ _ c.loop-n.invariant c.if-not-o.false c.loop-n-test.true
    (framed_as c.args.self.settings _ c.frame_rules-rules.ensures c.step-stops.ensures.frames) c.step-stops.ensures.few c.if-stops.false refl

pub returns-clause-advances : goal.returns-clause-advances
unfolding of_bits
returns-clause-advances c =
    let all : c.loop-n.n ≡ 65 = omega (arith, c.loop-n.invariant.bound, c.loop-n-test.false) in
    elim c.if-o.branch [
      | then-o w ↦ rw w.stop-is (full_whole _ _ _ c.loop-n.invariant w.if-o.true all)
      | else-o w ↦ rw w.stop-is (done_whole _ _ _ c.loop-n.invariant w.if-o.false all)
    ]
