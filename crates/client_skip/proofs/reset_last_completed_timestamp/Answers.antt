-- `reset_last_completed_timestamp` meets its contract: the new world where it goes along, the old one, and the base. Assumes nothing.
use Rattle.std.proofs.Common.{sym, ◌∙◌}
use Rattle.client_skip.specs.Skip.{emptied_base}
use Rattle.client_skip.proofs.Skipping.{emptied_is, skips_is, skip_plays}
use Rattle.client_skip.proofs.reset_last_completed_timestamp.Goals as goal

pub returns-then-is_lt : goal.returns-then-is_lt
returns-then-is_lt c =
    skip_plays c.args.scene.now _ c.last_completed_timestamp-old.ensures c.reset_along.ensures.plays c.old_side-side.ensures
    c.reset_side.ensures.plays (c.is_lt.ensures ∙ skips_is _ _ c.cmp.ensures) (emptied_is _ c.if-is_lt.true c.drain_all.ensures)

pub returns-else-is_lt : goal.returns-else-is_lt
returns-else-is_lt c =
    skip_plays c.args.scene.now _ c.last_completed_timestamp-old.ensures c.reset_along.ensures.plays c.old_side-side.ensures
    c.reset_side.ensures.plays (c.is_lt.ensures ∙ skips_is _ _ c.cmp.ensures) (λ i. emptied_base (sym c.if-is_lt.false i) c.reset_side.new.self)
