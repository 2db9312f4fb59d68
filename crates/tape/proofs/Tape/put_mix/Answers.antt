-- `put_mix` meets its contract: the mix's own word, and the three of its weight. Assumes nothing.
use Rattle.tape.proofs.Writing.{on_mix}
use Rattle.tape.proofs.Tape.put_mix.Goals as goal

pub returns : goal.returns
returns c =
    on_mix c.args.weight c.mix_word.ensures c.put.ensures c.f64_to_bits_with_nan-bits.ensures c.put_weight.ensures
