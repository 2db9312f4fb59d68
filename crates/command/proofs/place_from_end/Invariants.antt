-- `place_from_end` meets its contract. The loop's invariant: the entries passed are later than the new one, and stand one slot up. Assumes nothing.
use mathlib.Core.Path.{◌≡◌}
use Rattle.command.proofs.Ranks.{rank_in}
use Rattle.command.proofs.Shifting.{Shifting}
use Rattle.command.proofs.place_from_end.Given as goal

abbrev pub invariant-loop-i : goal.invariant-loop-i
invariant-loop-i l = (l.k ≡ rank_in l.around l.entry) × Shifting l.initial.slots l.n l.around l.entry l.i l.slots

abbrev pub decreases-loop-i : goal.decreases-loop-i
decreases-loop-i l = l.i
