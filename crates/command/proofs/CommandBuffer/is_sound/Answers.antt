-- `is_sound` meets its contract. The loop's invariant: of the entries passed, those that break a rule are counted. Assumes nothing.
use Rattle.std.proofs.Common.{sym, ◌∙◌}
use native.Mathlib.Omega.{arith}
use Rattle.command.proofs.Soundness.{sound_long}
use Rattle.command.proofs.Breaches.{tested_none, tested_breach, tested_well, sound_none, sound_some}
use Rattle.command.proofs.CommandBuffer.is_sound.Goals as goal
use Rattle.command.proofs.CommandBuffer.is_sound.Goals.{then-breaks_rule, else-breaks_rule}

pub returns-then-self-gt-BUFFER_ROOM : goal.returns-then-self-gt-BUFFER_ROOM
returns-then-self-gt-BUFFER_ROOM c = sound_long _ c.if-self-gt-BUFFER_ROOM.true

pub loop-e-init : goal.loop-e-init
loop-e-init c = tested_none _ _

pub overflow_add-breaches : goal.overflow_add-breaches
overflow_add-breaches c = omega (arith, c.loop-e.invariant.few, c.loop-e-test.true, c.held-e-items.ensures.few)

pub loop-e-preserved : goal.loop-e-preserved
loop-e-preserved c =
    elim c.if-breaks_rule.branch [
      | then-breaks_rule w ↦ rw (w.breaches-is, w.lo-is)
          (tested_breach c.loop-e.invariant 0 c.loop-e-test.true c.rank_in-k.ensures (sym c.breaks_rule.ensures ∙ w.if-breaks_rule.true))
      | else-breaks_rule w ↦ rw (w.breaches-is, w.lo-is)
          (tested_well c.loop-e.invariant 0 c.loop-e-test.true c.rank_in-k.ensures (sym c.breaks_rule.ensures ∙ w.if-breaks_rule.false))
    ]

pub returns-then-breaches-eq0 : goal.returns-then-breaches-eq0
returns-then-breaches-eq0 c =
    sound_none c.args.self.now c.if-self-gt-BUFFER_ROOM.false c.held-e-items.ensures.held c.loop-e.invariant c.loop-e-test.false c.if-breaches-eq0.true

pub returns-else-breaches-eq0 : goal.returns-else-breaches-eq0
returns-else-breaches-eq0 c =
    sound_some c.args.self.now c.if-self-gt-BUFFER_ROOM.false c.held-e-items.ensures.held c.loop-e.invariant c.loop-e-test.false c.if-breaches-eq0.false
