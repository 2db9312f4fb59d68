-- `advance` meets its contract. The invariant: what is left to play gives what the whole gives. Assumes nothing.
use Rattle.fixed_timestepper.proofs.Running.{Running}
use Rattle.fixed_timestepper.proofs.TimeKeeper.advance.Given as goal

abbrev pub invariant-loop-n : goal.invariant-loop-n
invariant-loop-n l = Running l.self.settings l.initial.scene l.initial.o l.initial.tape l.tape l.scene l.o l.n
