-- `apply_between` meets its contract. The loop's invariant: of the entries passed, the words of those in the span are on the tape. Assumes nothing.
use lib.ListN.{take}
use Rattle.tape.specs.Sides.{side_number}
use Rattle.tape.specs.Tape.{PutsOn}
use Rattle.command.specs.Lists.{filter_b}
use Rattle.command.specs.Buffer.{command_words}
use Rattle.command.specs.Ranks.{rank_within}
use Rattle.command.proofs.apply_between.Given as goal

abbrev pub invariant-loop-e : goal.invariant-loop-e
invariant-loop-e l =
    let passed = filter_b (rank_within l.span.around l.span.from l.span.end) (take l.e-index l.entries) in
    PutsOn l.initial.tape (command_words (side_number l.side) passed) l.tape
