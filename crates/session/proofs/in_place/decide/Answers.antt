-- `decide` meets its contract: refused at once, or the clock alone, or the worlds. Assumes nothing.
use mathlib.Core.Path.{refl, sym, ◌∙◌}
use mathlib.Core.Bool.{true, false}
use Rattle.std.proofs.lemmas.Result.{err_from_is_err_and}
use Rattle.refusals.proofs.Accepted.{once_accepted}
use Rattle.session.proofs.Answering.{once_is, once_few, scanned, clock_heard, update_refused, update_is, decided_as}
use Rattle.session.proofs.in_place.decide.Goals as goal

pub returns-in_err-at_once : goal.returns-in_err-at_once
returns-in_err-at_once c =
    let p = err_from_is_err_and c.from_residual.result c.from_residual.ensures.1 in
    rw (p.1, p.2) (
      update_refused _ _ _ _ _ (once_is _ _ _ _ c.times_ok.ensures c.scan-found.ensures.verdict c.is_sound.ensures c.at_once.ensures) c.in_err-at_once.was,
      (refl, refl),
    )

pub update_worlds-requires : goal.update_worlds-requires
update_worlds-requires c = (
  once_few _ _ _ _ (once_is _ _ _ _ c.times_ok.ensures c.scan-found.ensures.verdict c.is_sound.ensures c.at_once.ensures) c.in_ok-at_once.was,
  scanned _ _ _ c.scan-found.ensures (once_accepted _ _ _ (sym c.at_once.ensures ∙ c.in_ok-at_once.was)).1,
)

pub returns-then-has_worlds : goal.returns-then-has_worlds
returns-then-has_worlds c =
    decided_as _ _ _ _ _
    (update_is _ _ _ _ _ (once_is _ _ _ _ c.times_ok.ensures c.scan-found.ensures.verdict c.is_sound.ensures c.at_once.ensures)
    true c.in_ok-at_once.was c.has_worlds.ensures c.if-has_worlds.true) c.update_worlds.ensures

pub returns : goal.returns
returns c =
    decided_as _ _ _ _ _
    (clock_heard _ _ _ _ _ (scanned _ _ _ c.scan-found.ensures (once_accepted _ _ _ (sym c.at_once.ensures ∙ c.in_ok-at_once.was)).1)
    ∙ update_is _ _ _ _ _ (once_is _ _ _ _ c.times_ok.ensures c.scan-found.ensures.verdict c.is_sound.ensures c.at_once.ensures)
    false c.in_ok-at_once.was c.has_worlds.ensures c.if-has_worlds.false) c.update_clock.ensures
