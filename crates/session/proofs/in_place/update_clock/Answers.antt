-- `update_clock` meets its contract: refused, or the clock moved on. Assumes nothing.
use mathlib.Core.Path.{refl}
use Rattle.std.proofs.lemmas.Result.{err_from_is_err_and}
use Rattle.session.proofs.Answering.{clock_refused, clock_moved}
use Rattle.session.proofs.in_place.update_clock.Goals as goal

pub returns-in_err-while_syncing : goal.returns-in_err-while_syncing
returns-in_err-while_syncing c =
    let p = err_from_is_err_and c.from_residual.result c.from_residual.ensures.1 in
    let a = c.args in
    rw (p.1, p.2)
    (clock_refused a.session.now a.delta a.seconds a.scan.worldly a.scan.heard _ c.while_syncing.ensures c.in_err-while_syncing.was, (refl, refl))

pub returns : goal.returns
returns c =
    let a = c.args in
    clock_moved a.session.now a.delta a.seconds a.scan.worldly a.scan.heard _ c.while_syncing.ensures c.in_ok-while_syncing.was
    c.tick-t.ensures c.settle.ensures
    c.synced.ensures (c.unplayed.ensures.updates _)
