-- `update_worlds` meets its contract: refused by what arrived, or at the end of its frames, or accepted. Assumes nothing.
use Rattle.std.proofs.Common.{◌≡◌, refl, sym, ap, ◌∙◌}
use Rattle.std.specs.Prelude.{Float, Option, unwrap_or}
use Rattle.std.proofs.lemmas.Result.{err_from_is_err_and}
use Rattle.settings.specs.declared.Settings.{Settings}
use Rattle.clocksync.specs.declared.Clock.{Clock}
use Rattle.clocksync.specs.declared.Ticked.{Ticked}
use Rattle.clocksync.specs.declared.Heard.{Heard}
use Rattle.clocksync.specs.Clock.{ticked_of, settled_of, server_seconds_of}
use Rattle.clocksync.proofs.Samples.{offset_ticked}
use Rattle.client.specs.declared.Scene.{Scene}
use Rattle.client.specs.declared.Ledger.{Ledger}
use Rattle.client.specs.Ledgers.{empty_ledger}
use Rattle.session_state.specs.declared.Session.{Session}
use Rattle.session_state.specs.Session.{scene_of}
use Rattle.session_answers.specs.Inner.{accepted_by}
use Rattle.tape.proofs.Writing.{puts-length}
use Rattle.session.proofs.Answering.{worlds_refused, worlds_stopped, worlds_accepted}
use Rattle.session.proofs.in_place.update_worlds.Goals as goal

-- the scene that is made field by field
scene_is : (s : Session) {l r : Ledger} → l ≡ empty_ledger → r ≡ empty_ledger
    → ◌≡◌ {A = Scene} (record { worlds = s.worlds; left = l; right = r; steps = 0 }) (scene_of s)
scene_is s hl hr = λ i. record { worlds = s.worlds; left = hl i; right = hr i; steps = 0 }

pub returns-in_err-by_arrivals : goal.returns-in_err-by_arrivals
returns-in_err-by_arrivals c =
    let p = err_from_is_err_and c.from_residual.result c.from_residual.ensures.1 in
    let scene = scene_is c.args.session.now c.empty.ensures c.empty-2.ensures in
    rw (p.1, p.2)
    (worlds_refused _ _ _ _ c.requires.1 scene c.receive-full.ensures c.by_arrivals.ensures _ c.in_err-by_arrivals.was, (refl, refl))

-- the offset is that of the clock whose timer has moved on
offset_moved : (s : Settings) (k : Clock) (delta : Float) (h : Heard) {t : Ticked} {o : Option Float} → o ≡ (settled_of s k h).offset
    → t ≡ ticked_of k s.period delta → o ≡ (settled_of s t.clock h).offset
offset_moved s k delta h e f = e ∙ sym (offset_ticked s k s.period delta h) ∙ sym (ap (λ (t : Ticked). (settled_of s t.clock h).offset) f)

-- the server's time by it
server_is : (seconds : Float) {x : Float} {o p : Option Float} → x ≡ unwrap_or (server_seconds_of o seconds) seconds → o ≡ p
    → x ≡ unwrap_or (server_seconds_of p seconds) seconds
server_is seconds e f = e ∙ ap (λ (o : Option Float). unwrap_or (server_seconds_of o seconds) seconds) f

pub returns-in_err-verdict_at_end : goal.returns-in_err-verdict_at_end
returns-in_err-verdict_at_end c =
    let p = err_from_is_err_and c.from_residual-in_err-verdict_at_end.result c.from_residual-in_err-verdict_at_end.ensures.1 in
    let a = c.args in
    let s = a.session.now in
    let scene = scene_is s c.empty.ensures c.empty-2.ensures in
    rw (p.1, p.2) (
      worlds_stopped _ _ _ _ c.requires.1 scene c.receive-full.ensures c.by_arrivals.ensures c.in_ok-by_arrivals.was refl refl
          (server_is a.seconds c.server_time.ensures (offset_moved s.settings s.clock a.delta a.scan.heard c.offset_after-offset.ensures refl))
          c.update-a.ensures c.verdict_at_end.ensures c.in_err-verdict_at_end.was,
      (refl, puts-length c.update-a.ensures.puts),
    )

pub take-requires : goal.take-requires
take-requires c =
    let a = c.args in
    let s = a.session.now in
    offset_moved s.settings s.clock a.delta a.scan.heard c.offset_after-offset.ensures c.move_timer-request.ensures

pub returns : goal.returns
unfolding accepted_by
returns c =
    let a = c.args in
    let s = a.session.now in
    let scene = scene_is s c.empty.ensures c.empty-2.ensures in
    worlds_accepted _ _ _ _ c.requires.1 scene c.receive-full.ensures c.by_arrivals.ensures c.in_ok-by_arrivals.was
    c.move_timer-request.ensures c.take.ensures
    (server_is a.seconds c.server_time.ensures (offset_moved s.settings s.clock a.delta a.scan.heard c.offset_after-offset.ensures c.move_timer-request.ensures
    ∙ sym (ap (λ (k : Clock). k.offset) c.take.ensures)))
    c.update-a.ensures c.verdict_at_end.ensures c.in_ok-verdict_at_end.was c.accept_scene-told.ensures
