-- `extend` meets its contract. The loop's invariant: the entries passed that are in the span stand after those that were held. Assumes nothing.
use mathlib.Core.Path.{sym, ◌∙◌}
use Rattle.command.specs.Buffer.{blank}
use Rattle.command.proofs.Extending.{extended_room, extended_push, extended_skip}
use Rattle.command.proofs.CommandBuffer.extend.Goals as goal
use Rattle.command.proofs.CommandBuffer.extend.Goals.{then-holds, else-holds}

pub push-requires : goal.push-requires
push-requires c =
    extended_room c.loop-e.invariant blank c.loop-e-test.true (sym c.holds.ensures ∙ c.if-holds.true)
    (rw c.held-e-items.ensures.held c.requires.room)

pub loop-e-preserved : goal.loop-e-preserved
loop-e-preserved c =
    elim c.if-holds.branch [
      | then-holds w ↦ rw w.self-is
          (extended_push c.loop-e.invariant blank c.loop-e-test.true (sym c.holds.ensures ∙ w.if-holds.true) w.push.ensures)
      | else-holds w ↦ rw w.self-is
          (extended_skip c.loop-e.invariant blank c.loop-e-test.true (sym c.holds.ensures ∙ w.if-holds.false))
    ]
