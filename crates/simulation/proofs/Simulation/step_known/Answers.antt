-- `step_known` meets its contract: where a step is known to be quiet the step's word alone, else the drain, the step's word, and the move. Assumes nothing.
use native.Mathlib.Omega.{arith}
use Prim.Native.Nat.{◌≤◌}
use Rattle.command.specs.Ranks.{quiet_steps_of}
use Rattle.command.proofs.Quiet.{quiet_waits, quiet_on}
use Rattle.simulation.proofs.Rules.{step_does}
use Rattle.simulation.proofs.Waiting.{waits_does}
use Rattle.simulation.proofs.Simulation.step_known.Goals.{then-quiet-eq0, else-quiet-eq0}
use Rattle.simulation.proofs.Simulation.step_known.Goals as goal

-- the number that the step goes by, handed in or read
known : (c : goal.After-put) → c.if-quiet-eq0.quiet ≤ quiet_steps_of c.args.self.now.commands
known c =
    elim c.if-quiet-eq0.branch [
      | then-quiet-eq0 w ↦ omega (arith, w.quiet_steps.ensures, w.quiet-is)
      | else-quiet-eq0 w ↦ omega (arith, c.requires.1, w.quiet-is)
    ]

pub returns-then-quiet-gt0-clause-does : goal.returns-then-quiet-gt0-clause-does
returns-then-quiet-gt0-clause-does c =
    waits_does _ _ c.add-next.ensures (quiet_waits _ c.add-next.ensures (omega (arith, known c, c.if-quiet-gt0.true))) c.step_word.ensures c.put.ensures

pub returns-then-quiet-gt0-clause-known : goal.returns-then-quiet-gt0-clause-known
returns-then-quiet-gt0-clause-known c =
    omega (arith, known c, quiet_on c.args.self.now.commands c.add-next.ensures (omega (arith, known c, c.if-quiet-gt0.true)))

pub returns-clause-does : goal.returns-clause-does
returns-clause-does c =
    step_does _ _ c.add-next.ensures c.apply_up_to.ensures.applied c.step_word-2.ensures c.put-2.ensures c.update_timestamp-leftout.ensures
