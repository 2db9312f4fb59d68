-- `is_tidy` meets its contract: both tests, or the first that fails. Assumes nothing.
use borrow.Author.Rules.{rules}
use Rattle.command.proofs.Tidy.{tidy_is, tidy_not}
use Rattle.command.proofs.CommandBuffer.is_tidy.Goals as goal

pub returns-then-is_sound : goal.returns-then-is_sound
returns-then-is_sound c = tidy_is c.args.self.now (search rules) c.is_sound.ensures c.if-is_sound.true c.min.ensures c.all_blank.ensures

pub returns-else-is_sound : goal.returns-else-is_sound
returns-else-is_sound c = tidy_not c.args.self.now c.is_sound.ensures c.if-is_sound.false
