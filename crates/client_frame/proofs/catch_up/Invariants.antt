-- `catch_up` meets its contract. The invariant: what is left gives what the whole gives. Assumes nothing.
use Rattle.client_frame.proofs.Catching.{Catching}
use Rattle.client_frame.proofs.catch_up.Given as goal

abbrev pub invariant-loop : goal.invariant-loop
invariant-loop l = Catching l.m l.old l.initial.scene l.initial.tape l.tape l.scene l.quiet l.counter
