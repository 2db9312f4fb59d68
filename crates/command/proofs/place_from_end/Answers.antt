-- `place_from_end` meets its contract. The loop's invariant: the entries passed are later than the new one, and stand one slot up. Assumes nothing.
use borrow.Author.Rules.{rules}
use native.Mathlib.Omega.{arith}
use Rattle.command.proofs.Shifting.{shift_none, shift_end, shift_stop, shift_next}
use Rattle.command.proofs.place_from_end.Goals as goal

pub loop-i-init : goal.loop-i-init
loop-i-init c = (c.rank_in-k.ensures, shift_none _ _ _ _ c.requires)

pub returns-then-rank_in-k : goal.returns-then-rank_in-k
returns-then-rank_in-k c =
    let l = c.loop-i.invariant in
    shift_stop l.1 (search rules) (omega (arith, l.0, c.rank_in.ensures, c.if-rank_in-k.true))

pub loop-i-preserved : goal.loop-i-preserved
loop-i-preserved c =
    let l = c.loop-i.invariant in
    (l.0, shift_next l.1 (search rules) (omega (arith, l.0, c.rank_in.ensures, c.if-rank_in-k.false)))

pub returns : goal.returns
returns c = shift_end c.loop-i.invariant.1 (search rules)
