-- `put_weight` meets its contract: the three parts of the pattern, the high one first. Assumes nothing.
use Rattle.tape.proofs.Writing.{on_weight}
use Rattle.tape.proofs.Tape.put_weight.Goals as goal

pub returns : goal.returns
returns c =
    let bits = c.args.bits in
    on_weight bits c.weight_word.ensures c.put.ensures c.weight_word-2.ensures c.put-2.ensures
    c.weight_word-3.ensures c.put-3.ensures
