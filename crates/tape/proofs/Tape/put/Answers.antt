-- `put` meets its contract: a word with room is stored, and one past the end leaves the tape as it is. Assumes nothing.
use Rattle.std.proofs.Common.{refl, sym, subst, ◌+◌, [], ◌∷◌}
use Rattle.tape.specs.declared.Tape.{Tape}
use Rattle.tape.specs.Tape.{PutsOn}
use Rattle.tape.proofs.Writing.{written_one, written_out}
use Rattle.tape.proofs.Tape.put.Goals as goal
use Rattle.tape.proofs.Tape.put.Goals.{then-self, else-self}

pub returns : goal.returns
returns c =
    let puts = (λ (t : Tape). PutsOn c.args.self.now (c.args.word ∷ []) (record { words = t.words; at = t.at + 1 })) in
    elim c.if-self.branch [
      | then-self w ↦ subst puts (sym w.self-is) (record { at = refl; tape = sym (written_one _ _ _); lent = refl })
      | else-self w ↦ subst puts (sym w.self-is) (record { at = refl; tape = sym (written_out _ _ _ w.if-self.false); lent = refl })
    ]
