-- Every way in which an update is answered: refused, its clock moved on, or its frames played. Who shows a thing of each has it of the update.
-- And the same of an issue. Assumes nothing.
use mathlib.Core.Path.{◌≡◌, refl}
use mathlib.Core.Bool.{Bool, true, false}
use mathlib.Core.List.{List}
use Prim.Native.Nat.{ℕ, ◌<◌}
use native.Mathlib.Omega.{arith}
use lib.Dec.{leb, ltb}
use lib.ListN.{length}
use lib.Ieee.{Float}
use borrow.Author.Tests.{ltb-true}
use Rattle.refusals.specs.Limits.{handle_room}
use Rattle.std.specs.Prelude.{Ok, Err}
use Rattle.refusals.specs.declared.Refusal.{Refusal}
use Rattle.refusals.specs.Refusals.{Verdict, accepted, syncing_verdict_by, arrival_verdict_by, end_verdict_by}
use Rattle.refusals.specs.declared.Stop.TheVariants.{Done}
use Rattle.refusals.proofs.Accepted.{once_accepted, end_accepted, issue_accepted}
use Rattle.inbox_refusal.specs.Refusal.{refusal_of}
use Rattle.client_publish.specs.Ending.{weight_ok}
use Rattle.timestamp.specs.Floats.{tween_of}
use Rattle.fixed_timestepper.specs.TimeKeeper.{Run}
use Rattle.session_state.specs.declared.Stage.{Stage}
use Rattle.session_state.specs.declared.Stage.TheVariants.{SyncingClock, SyncingInitialState, Ready}
use Rattle.session_state.specs.declared.Session.{Session}
use Rattle.session_state.specs.Session.{has_worlds, is_ready}
use Rattle.session_state.specs.Sound.{sound_of}
use Rattle.inbox_passes.specs.Passes.{has_for_worlds, received_in}
use Rattle.session_issue.specs.declared.IssueAnswer.{IssueAnswer}
use Rattle.session_answers.specs.Answers.{Reply, refused_with, unless_refused, accepted_of}
use Rattle.session_issue.specs.Issue.{unissued, issued_of}
use Rattle.session.specs.Calls.{times_ok, verdict_at_once, heard_other, clock_after, request_of, clock_moved_of, clock_update_of, concluded_of, unreceived}
use Rattle.session.specs.Calls.{played_of}
use Rattle.session.specs.Calls.{worlds_update_of, update_by, update_of}
use Rattle.session_issue.specs.Issue.{issue_stamp, received_now, issue_verdict_of, issue_by, issue_of}

-- the stage without worlds
pub without_worlds : (x : Stage) → has_worlds x ≡ false → x ≡ SyncingClock
without_worlds SyncingClock h = refl
without_worlds SyncingInitialState h = absurd (let z : ◌≡◌ {A = ℕ} 0 1 = cc in omega arith)
without_worlds Ready h = absurd (let z : ◌≡◌ {A = ℕ} 0 1 = cc in omega arith)

-- what is known of an update that is not refused at once
pub record Judged (s : Session) (delta seconds : Float) (box : List ℕ) : Type 0 where
  pub times : times_ok delta seconds ≡ true
  pub inbox : refusal_of box ≡ accepted
  pub sound : sound_of s ≡ true

-- the run of an update's frames
abbrev pub run_in : Session → Float → Float → List ℕ → Run
run_in s delta seconds inbox = played_of s (clock_after s delta seconds inbox) delta seconds inbox

-- the ways of an update
pub record Ways (P : Reply → Type 0) (s : Session) (delta seconds : Float) (box : List ℕ) (len : ℕ) : Type 0 where
  pub refuses : (e : Refusal) → P (refused_with e s len)
  pub syncs : Judged s delta seconds box → has_worlds s.stage ≡ false → P (clock_moved_of s delta seconds box len)
  pub plays :
      Judged s delta seconds box → has_worlds s.stage ≡ true → (run_in s delta seconds box).stop ≡ Done →
      weight_ok (tween_of (run_in s delta seconds box).overshoot s.settings.timestep) ≡ true →
      P (accepted_of s (clock_after s delta seconds box) (request_of s delta) (run_in s delta seconds box) len)

-- refused, or not
unless_by : (P : Reply → Type 0) (v : Verdict) (s : Session) (len : ℕ) (a : Reply) → ((e : Refusal) → P (refused_with e s len)) → (v ≡ accepted → P a)
    → P (unless_refused v s len a)
unless_by P (Ok x) s len a f g = g refl
unless_by P (Err e) s len a f g = f e

module _ {P : Reply → Type 0} (s : Session) (delta seconds : Float) (inbox : List ℕ) (len : ℕ) (h : Ways P s delta seconds inbox len) where
  concluded_way : Judged s delta seconds inbox → has_worlds s.stage ≡ true
      → P (concluded_of s (clock_after s delta seconds inbox) (request_of s delta) (run_in s delta seconds inbox) len)
  unfolding concluded_of
  concluded_way j x =
      let r : Run = run_in s delta seconds inbox in
      let w : Bool = weight_ok (tween_of r.overshoot s.settings.timestep) in
      let f : Bool = leb (length r.played.words) len in
      unless_by P (end_verdict_by r.stop w f) s len _ h.refuses (λ z. let e = end_accepted r.stop w f z in h.plays j x e.0 e.1)

  by_way : (b : Bool) → has_worlds s.stage ≡ b → Judged s delta seconds inbox → P (update_by b s delta seconds inbox len)
  unfolding worlds_update_of clock_update_of
  by_way true x j =
      unless_by P (arrival_verdict_by (heard_other s seconds inbox) (received_in inbox (unreceived s)).full) s len _ h.refuses (λ z.
      concluded_way j x)
  by_way false x j = unless_by P (syncing_verdict_by (has_for_worlds inbox) (heard_other s seconds inbox)) s len _ h.refuses (λ z. h.syncs j x)

  -- an update
  pub update_by_ways : P (update_of s delta seconds inbox len)
  unfolding update_of verdict_at_once
  update_by_ways =
      unless_by P (verdict_at_once s delta seconds inbox) s len _ h.refuses
      (λ z. let j = once_accepted (times_ok delta seconds) (refusal_of inbox) (sound_of s) z in
      by_way (has_worlds s.stage) refl (record { times = j.0; inbox = j.1; sound = j.2 }))

-- an issue: refused, or received by the worlds of a sound session
pub issue_by_ways : (P : IssueAnswer → Type 0) (s : Session) (h : ℕ) → ((e : Refusal) → P (unissued e s))
    → (h < handle_room → sound_of s ≡ true → P (issued_of s (issue_stamp s) (received_now s h))) → P (issue_of s h)
unfolding issue_of
issue_by_ways P s h f g = go (issue_verdict_of s h) refl
  where
    go : (v : Verdict) → issue_verdict_of s h ≡ v → P (issue_by v s (issue_stamp s) (received_now s h))
    go (Ok x) t =
        let a = issue_accepted (ltb h handle_room) (sound_of s) (has_worlds s.stage) (received_now s h).full (is_ready s.stage) t in
        g (ltb-true h handle_room a.0) a.1
    go (Err e) t = f e
