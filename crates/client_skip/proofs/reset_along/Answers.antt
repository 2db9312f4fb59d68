-- `reset_along` meets its contract: equal stamps decide. Assumes nothing.
use Rattle.std.proofs.Common.{sym, ◌∙◌}
use Rattle.client_skip.proofs.Skipping.{along_plays, along_stays}
use Rattle.client_skip.proofs.reset_along.Goals as goal

pub returns-then-eq-clause-plays : goal.returns-then-eq-clause-plays
returns-then-eq-clause-plays c =
    along_plays _ _ c.last_completed_timestamp-old.ensures c.new_timestamp-new.ensures (sym c.eq.ensures ∙ c.if-eq.true) c.new_side-side.ensures
    c.reset_side.ensures.plays

pub returns-else-eq-clause-plays : goal.returns-else-eq-clause-plays
returns-else-eq-clause-plays c =
    along_stays _ _ c.last_completed_timestamp-old.ensures c.new_timestamp-new.ensures (sym c.eq.ensures ∙ c.if-eq.false)
