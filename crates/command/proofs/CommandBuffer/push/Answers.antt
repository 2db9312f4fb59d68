-- `push` meets its contract: a store at the first unused slot. Assumes nothing.
use native.Mathlib.Omega.{arith}
use Rattle.command.proofs.Lists.{laid_push}
use Rattle.command.proofs.Holding.{as_laid, is_laid}
use Rattle.command.proofs.CommandBuffer.push.Goals as goal

pub returns : goal.returns
returns c =
    let w = as_laid _ c.requires.0 in
    is_laid _ (laid_push w _ (omega (arith, w.count, c.requires.1)))
