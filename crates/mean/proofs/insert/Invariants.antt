-- `insert` meets its contract: those from the place on move up, one a turn. Assumes nothing.
use Rattle.std.proofs.Common.{◌≡◌, ◌∷◌}
use Rattle.std.specs.List.{insert}
use Rattle.mean.proofs.insert.Given as goal

abbrev pub invariant-loop-slot : goal.invariant-loop-slot
invariant-loop-slot l = insert l.slot-items l.slot-index l.moved ≡ l.x ∷ l.initial.slot-items
