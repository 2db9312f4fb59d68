-- What an issue comes to, over plain values: each way that it ends, from what its parts answered. Assumes nothing.
use mathlib.Core.Path.{◌≡◌, ap, sym, ◌∙◌}
use mathlib.Core.Bool.{Bool}
use Prim.Native.Nat.{ℕ}
use lib.Dec.{ltb}
use Rattle.std.specs.Prelude.{Ok, Err}
use Rattle.refusals.specs.declared.Refusal.{Refusal}
use Rattle.refusals.specs.Limits.{handle_room}
use Rattle.refusals.specs.Refusals.{Verdict, issue_verdict_by}
use Rattle.timestamp.specs.declared.Timestamp.{Timestamp}
use Rattle.timestamp.specs.Timestamps.{sum_of}
use Rattle.client_receive.specs.Receive.{Received}
use Rattle.client.specs.declared.Scene.{Scene}
use Rattle.client.specs.Sides.{old_stamp_of}
use Rattle.client_receive.specs.Receive.{received_of}
use Rattle.session_state.specs.declared.Session.{Session}
use Rattle.session_state.specs.Session.{has_worlds, is_ready}
use Rattle.session_state.specs.Sound.{sound_of}
use Rattle.session_issue.specs.declared.IssueAnswer.{IssueAnswer}
use Rattle.command.specs.Entries.{Entry, entry_of}
use Rattle.session_state.specs.Session.{scene_of}
use Rattle.session_issue.specs.Issue.{unissued, issued_of}
use Rattle.session_issue.specs.Issue.{issue_stamp, received_now, issue_verdict_of, issue_by, issue_of}

module _ (s : Session) (h : ℕ) {scene : Scene} {old stamp : Timestamp} {e : Entry} {got : Received} {b p w y : Bool} {v : Verdict}
    (ho : old ≡ old_stamp_of s.worlds) (hst : stamp.0 ≡ sum_of old.0 1) (hs : scene ≡ scene_of s)
    (he : e ≡ entry_of stamp h) (hg : got ≡ received_of scene e)
    (hp : p ≡ sound_of s) (hb : b ≡ ltb h handle_room) (hw : w ≡ has_worlds s.stage) (hy : y ≡ is_ready s.stage)
    (hv : v ≡ issue_verdict_by b p w got.full y) where
  stamp_is : stamp ≡ issue_stamp s
  stamp_is = λ i. record { 0 = (hst ∙ ap (λ (t : Timestamp). sum_of t.0 1) ho) i }

  got_is : got ≡ received_now s h
  got_is = hg ∙ (λ i. received_of (hs i) ((he ∙ ap (λ (t : Timestamp). entry_of t h) stamp_is) i))

  verdict_is : v ≡ issue_verdict_of s h
  verdict_is = hv ∙ (λ i. issue_verdict_by (hb i) (hp i) (hw i) (got_is i).full (hy i))

  pub issue_refused : {e : Refusal} → v ≡ Err e → unissued e s ≡ issue_of s h
  unfolding issue_of
  issue_refused k = ap (λ (u : Verdict). issue_by u s (issue_stamp s) (received_now s h)) (sym k ∙ verdict_is)

  pub issue_accepted : {r : IssueAnswer} {x : Unit {0}} → v ≡ Ok x → r ≡ issued_of s stamp got → r ≡ issue_of s h
  unfolding issue_of
  issue_accepted k e = e ∙ (λ i. issue_by ((sym k ∙ verdict_is) i) s (stamp_is i) (got_is i))
