-- `apply_between` meets its contract. The loop's invariant: of the entries passed, the words of those in the span are on the tape. Assumes nothing.
use native.Mathlib.Omega.{arith}
use mathlib.Core.Path.{sym, ap, ◌∙◌}
use Rattle.tape.specs.Words.{command_word}
use Rattle.tape.proofs.Writing.{on_none}
use Rattle.tape.specs.Sides.{side_number}
use Rattle.command.specs.Buffer.{blank, command_words}
use Rattle.command.specs.Ranks.{rank_within}
use Rattle.command.proofs.Lists.{filter-left}
use Rattle.command.proofs.Applying.{apply_few, apply_one}
use Rattle.command.proofs.apply_between.Goals as goal
use Rattle.command.proofs.apply_between.Goals.{then-holds, else-holds}

pub loop-e-init : goal.loop-e-init
unfolding command_words
loop-e-init c = on_none _

pub put-requires : goal.put-requires
put-requires c =
    let a = c.args in
    let fits = rank_within a.span.around a.span.from a.span.end in
    omega (arith, c.requires.0, c.requires.1, apply_few (side_number a.side) fits a.entries.now c.loop-e.e-index c.loop-e.invariant)

pub loop-e-preserved : goal.loop-e-preserved
loop-e-preserved c =
    elim c.if-holds.branch [
      | then-holds w ↦ rw w.tape-is
          (apply_one _ _ _ _ c.loop-e-test.true (sym c.holds.ensures ∙ w.if-holds.true)
          (w.command_word.ensures ∙ ap (command_word _) w.handle_of.ensures) c.loop-e.invariant w.put.ensures)
      | else-holds w ↦ rw (w.tape-is, filter-left _ _ _ blank c.loop-e-test.true (sym c.holds.ensures ∙ w.if-holds.false))
          c.loop-e.invariant
    ]
