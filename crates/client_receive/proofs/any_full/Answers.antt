-- `any_full` meets its contract: where the base and the left world were not full, the right one decides. `search` finds it too; it is answered so that a wrong
-- program is refused at an equation, and not at a limit of `search`. Assumes nothing.
use Rattle.std.proofs.Common.{◌≡◌, false, ◌∙◌, rules}
use Rattle.command.specs.declared.Outcome.{Outcome}
use Rattle.command.specs.Buffer.{full_by}
use Rattle.client_receive.specs.Inner.{any_full}
use Rattle.client_receive.proofs.any_full.Goals as goal

right_decides : (b l r : Outcome) → full_by b ≡ false → full_by l ≡ false → full_by r ≡ any_full b l r
unfolding any_full
right_decides b l r hb hl = rw (hb, hl)

pub returns-else-is_full-2 : goal.returns-else-is_full-2
returns-else-is_full-2 c = c.is_full-else-is_full-2.ensures ∙ right_decides c.args.base c.args.left c.args.right (search rules) (search rules)
