-- `insert_known` meets its contract: out of range, full, or taken, into a tidy buffer from its end or laid out anew. Assumes nothing.
use borrow.Author.Rules.{rules}
use mathlib.Core.Path.{◌≡◌, sym, ap, ◌∙◌}
use mathlib.Core.Bool.{true}
use native.Mathlib.Omega.{arith}
use Rattle.command.proofs.Holding.{held_full, held_below}
use Rattle.command.proofs.Calls.{inserted_out, inserted_full, inserted_taken}
use Rattle.command.specs.Soundness.{tidy_of}
use Rattle.command.proofs.Tidy.{known_tidy, tidy_known, tidy_placed}
use Rattle.command.proofs.CommandBuffer.insert_known.Goals as goal
use Rattle.command.proofs.CommandBuffer.insert_known.Goals.{then-tidy, else-tidy}

pub returns-then-not-in_range-clause-inserted : goal.returns-then-not-in_range-clause-inserted
returns-then-not-in_range-clause-inserted c = inserted_out _ _ (sym c.in_range.ensures ∙ c.if-not-in_range.true)

pub returns-then-self-ge-BUFFER_ROOM-clause-inserted : goal.returns-then-self-ge-BUFFER_ROOM-clause-inserted
returns-then-self-ge-BUFFER_ROOM-clause-inserted c =
    inserted_full _ _ (sym c.in_range.ensures ∙ c.if-not-in_range.false)
    (held_full c.args.self.now (search rules) (omega (arith, c.if-self-ge-BUFFER_ROOM.true)))

pub returns-then-is_tidy-clause-inserted : goal.returns-then-is_tidy-clause-inserted
returns-then-is_tidy-clause-inserted c =
    inserted_taken _ _ (sym c.in_range.ensures ∙ c.if-not-in_range.false)
    (held_below c.args.self.now (omega (arith, c.if-self-ge-BUFFER_ROOM.false))) c.place_from_end.ensures.buffer

pub returns-then-is_tidy-clause-known : goal.returns-then-is_tidy-clause-known
returns-then-is_tidy-clause-known c =
    let b = c.args.self.now in
    let tidy : tidy_of b ≡ true = elim c.if-tidy.branch [
      | then-tidy w ↦ known_tidy c.args.tidy.now b c.requires w.if-tidy.true
      | else-tidy w ↦ sym w.is_tidy.ensures ∙ sym w.value-is ∙ c.if-is_tidy.true
    ] in
    tidy_known c.is_plain.result _ (λ e. ap tidy_of c.place_from_end.ensures.buffer
    ∙ tidy_placed b c.args.entry (search rules) tidy (sym c.in_range.ensures ∙ c.if-not-in_range.false) (omega (arith, c.if-self-ge-BUFFER_ROOM.false))
    (sym c.is_plain.ensures ∙ e))

pub returns-else-is_tidy-clause-inserted : goal.returns-else-is_tidy-clause-inserted
returns-else-is_tidy-clause-inserted c =
    inserted_taken _ _ (sym c.in_range.ensures ∙ c.if-not-in_range.false)
    (held_below c.args.self.now (omega (arith, c.if-self-ge-BUFFER_ROOM.false))) c.place.ensures
