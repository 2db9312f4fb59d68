-- `update` meets its contract where the arrays fit: it is the update of the session that numbers and arrays are. Assumes nothing.
use Rattle.std.proofs.Common.{rules}
use Rattle.session_lent.proofs.Placing.{place_fit}
use Rattle.session_lent.proofs.update.Goals as goal

pub returns : goal.returns
returns c =
    place_fit _ _ _ _ _ _ _ _ _ _ c.lengths_fit.ensures c.if-not-lengths_fit.false
    c.samples_of.ensures c.slots_of.ensures c.slots_of-2.ensures c.slots_of-3.ensures
    _ _ c.session_of-next.ensures c.update-told.ensures c.is_ok.ensures.value
    c.give_back.ensures.samples c.give_back.ensures.left c.give_back.ensures.right c.give_back.ensures.base
    (search rules) c.of-2.ensures
