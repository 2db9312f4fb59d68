-- What update comes to, over plain values: each way that an update ends, from what its parts answered. Assumes nothing.
use mathlib.Core.Path.{◌≡◌, refl, ap, sym, ◌∙◌, subst}
use mathlib.Core.Bool.{Bool, true, false, cond}
use mathlib.Core.List.{List, ◌++◌}
use Prim.Native.Nat.{ℕ, ◌-◌, ◌≤◌}
use native.Mathlib.Omega.{arith}
use lib.Dec.{leb, ltb}
use lib.ListN.{length, replicate}
use lib.Ieee.{Float, binary64, add}
use borrow.Author.Tests.{leb-true, ltb-true}
use Rattle.timestamp.proofs.Tests.{apart}
use Rattle.refusals.specs.Limits.{most_steps, most_words}
use Rattle.std.specs.Prelude.{Result, Ok, Err}
use Rattle.refusals.specs.declared.Refusal.{Refusal}
use Rattle.refusals.specs.declared.Refusal.TheVariants.{Length}
use Rattle.refusals.specs.Refusals.{Verdict, accepted, once_verdict_by, syncing_verdict_by, arrival_verdict_by, end_verdict_by}
use Rattle.refusals.proofs.Accepted.{turned_down, once_accepted, end_accepted}
use Rattle.settings.specs.Settings.{passes_of}
use Rattle.settings.proofs.Limits.{steps_few}
use Rattle.clocksync.specs.declared.Clock.{Clock}
use Rattle.clocksync.specs.declared.Heard.{Heard}
use Rattle.clocksync.specs.declared.Ticked.{Ticked}
use Rattle.clocksync.specs.Clock.{ticked_of, listen_of, settled_of, server_seconds_of}
use Rattle.inbox_refusal.proofs.Refusals.{refusal_long}
use Rattle.inbox_refusal.specs.Refusal.{refusal_of}
use Rattle.tape.specs.Tape.{cleared}
use Rattle.tape.proofs.Writing.{puts-length, cleared_after}
use Rattle.client_receive.specs.Receive.{Received}
use Rattle.client.specs.declared.Scene.{Scene}
use Rattle.client.specs.Sides.{old_stamp_of, with_worlds, with_snapshots}
use Rattle.client_receive.specs.Receive.{none_received}
use Rattle.client_publish.specs.Ending.{weight_ok}
use Rattle.timestamp.specs.Floats.{tween_of}
use Rattle.fixed_timestepper.specs.declared.Advanced.{Advanced}
use Rattle.fixed_timestepper.specs.TimeKeeper.{Run, ended_of, finished_of, unended_of, updated_of, Advances}
use Rattle.session_state.specs.declared.Session.{Session}
use Rattle.session_state.specs.Session.{has_worlds, session_with}
use Rattle.session_state.specs.Sound.{sound_of}
use Rattle.inbox_passes.specs.Passes.{has_for_worlds, heard_in, received_in}
use Rattle.inbox_scan.specs.declared.Scan.{Scan}
use Rattle.inbox_scan.specs.Scan.{has_command, kept_in, Scans}
use Rattle.inbox_scan.proofs.Arriving.{received_noted}
use Rattle.client.specs.declared.Snapshots.{Snapshots}
use Rattle.session_answers.specs.declared.UpdateAnswer.{UpdateAnswer}
use Rattle.session_answers.specs.declared.Updated.{Updated}
use Rattle.session_answers.specs.Answers.{Leaves, answer_with, Reply, unplayed_of, refused_with, unless_refused, accepted_of, Updates}
use Rattle.session_stage.specs.Stage.{synced_of, stage_after}
use Rattle.session_state.specs.Session.{scene_of}
use Rattle.client.specs.Ledgers.{closed_of}
use Rattle.session_answers.specs.Inner.{accepted_by}
use Rattle.std.specs.Prelude.{unwrap_or}
use Rattle.session.specs.Calls.{times_ok, heard_other, clock_after, request_of, clock_update_of, concluded_of, verdict_at_once}
use Rattle.session.specs.Calls.{lagged_of, unreceived, scene_after, played_of, worlds_update_of, update_by, update_of}
use Rattle.session.specs.Inner.{Scanned, clock_moved_by, arrived_in, end_verdict_of, decided}

-- ---- refused or not

-- another answer of the same value
updates_as : {x y : Reply} {r : UpdateAnswer} {last : List ℕ} → x ≡ y → Updates x r last → Updates y r last
updates_as {x} {y} {r} {last} e h = subst (λ (z : Reply). Updates z r last) e h

-- an update by its verdict
by_verdict : (s : Session) (len : ℕ) (a : Reply) {u v : Verdict} (w : Verdict) → u ≡ v → u ≡ w → unless_refused v s len a ≡ unless_refused w s len a
by_verdict s len a w h k = ap (λ (x : Verdict). unless_refused x s len a) (sym h ∙ k)

-- an update that was refused by what it is decided by: its tape is zeroed then
pub decided_refused : (was now : Session) (len : ℕ) (mid : List ℕ) {reply : Reply} {d : Result Updated Refusal} {e : Refusal} {last : List ℕ}
    {a : Result Updated Refusal}
    → decided reply was len d now mid → d ≡ Err e → Leaves (λ s. refused_with e s (length mid)) a last → Updates reply (answer_with now a) last
decided_refused was now len mid {reply} {d} {e} {last} {a} h k g =
    let r = subst (λ (x : Result Updated Refusal). decided reply was len x now mid) k h in
    updates_as (sym (r.0 ∙ (λ i. refused_with e (sym r.1.0 i) (sym r.1.1 i)))) (g.updates now)

-- one that was not
pub decided_told : (was : Session) (len : ℕ) {reply : Reply} {now : Session} {d : Result Updated Refusal} {a : Updated} {last : List ℕ}
    → decided reply was len d now last → d ≡ Ok a → Updates reply (answer_with now (Ok a)) last
decided_told was len {reply} {now} {d} {a} {last} h k = subst (λ (x : Result Updated Refusal). decided reply was len x now last) k h

-- ---- refused at once

pub once_is : (s : Session) (delta seconds : Float) (inbox : List ℕ) {t q : Bool} {m n : Verdict} → t ≡ times_ok delta seconds → m ≡ refusal_of inbox
    → q ≡ sound_of s → n ≡ once_verdict_by t m q → n ≡ verdict_at_once s delta seconds inbox
unfolding verdict_at_once
once_is s delta seconds inbox ht hm hq h = h ∙ (λ i. once_verdict_by (ht i) (hm i) (hq i))

-- an update that is not refused at once has an m of at most 64
pub once_few : (s : Session) (delta seconds : Float) (inbox : List ℕ) {n : Verdict} → n ≡ verdict_at_once s delta seconds inbox → n ≡ accepted
    → s.settings.m ≤ most_steps
unfolding verdict_at_once sound_of
once_few s delta seconds inbox hn e =
    let k = once_accepted (times_ok delta seconds) (refusal_of inbox) (sound_of s) (sym hn ∙ e) in
    (steps_few s.settings (apart (passes_of s.settings) _ k.2).0).1

-- ---- what an inbox holds

-- an inbox that is not refused is not too long
not_long : (words : List ℕ) → refusal_of words ≡ accepted → ltb most_words (length words) ≡ false
not_long words h = go (ltb most_words (length words)) refl
  where
    go : (x : Bool) → ltb most_words (length words) ≡ x → x ≡ false
    go true e = turned_down Length (refusal_long words (ltb-true most_words (length words) e) ∙ h)
    go false e = refl

-- so all of it was read
pub scanned : (s : Session) (seconds : Float) (words : List ℕ) {r : Scan}
    → Scans words seconds (listen_of s.clock) s.worlds.snapshots (old_stamp_of s.worlds) r → r.verdict ≡ accepted → Scanned s seconds words r
scanned s seconds words h e =
    let k = not_long words (sym h.verdict ∙ e) in
    record {
      worldly = h.worldly ∙ (λ i. cond (k i) false (has_for_worlds words));
      commands = h.commands ∙ (λ i. cond (k i) false (has_command words));
      heard = h.heard ∙ (λ i. cond (k i) (listen_of s.clock) (heard_in seconds words (listen_of s.clock)));
      snapshots = h.snapshots ∙ (λ i. cond (k i) s.worlds.snapshots (kept_in (old_stamp_of s.worlds) words s.worlds.snapshots));
    }

-- what arrives: the commands, and then the snapshots that were found
pub arrives : (words : List ℕ) (s : Scene) {got : Received} {n : Snapshots} → got ≡ received_in words (none_received s)
    → n ≡ kept_in (old_stamp_of s.worlds) words s.worlds.snapshots
    → ◌≡◌ {A = Received} (record { scene = with_worlds got.scene (with_snapshots got.scene.worlds n); full = got.full }) (arrived_in words (none_received s))
arrives words s {got} {n} hg hn =
    let r : Received = received_in words (none_received s) in
    (λ i. record { scene = with_worlds (hg i).scene (with_snapshots (hg i).scene.worlds (hn i)); full = (hg i).full })
    ∙ (λ i. record { scene = with_worlds r.scene (sym (received_noted words (none_received s)) i); full = r.full })

-- ---- an update of the clock alone

-- by what was heard, it is the update by the inbox
pub clock_heard : (s : Session) (delta seconds : Float) (inbox : List ℕ) (len : ℕ) {scan : Scan}
    → Scanned s seconds inbox scan → clock_moved_by s delta seconds scan.worldly scan.heard len ≡ clock_update_of s delta seconds inbox len
unfolding clock_update_of
clock_heard s delta seconds inbox len h = λ i. clock_moved_by s delta seconds (h.worldly i) (h.heard i) len

module _ (s : Session) (delta seconds : Float) (worldly : Bool) (heard : Heard) (len : ℕ) {n : Verdict}
    (hn : n ≡ syncing_verdict_by worldly heard.other) where
  pub clock_refused : {e : Refusal} → n ≡ Err e → clock_moved_by s delta seconds worldly heard len ≡ refused_with e s len
  clock_refused {e} k = by_verdict s len _ (Err e) hn k

  pub clock_moved : {t : Ticked} {c : Clock} {next : Session} {r : UpdateAnswer} {last : List ℕ} → n ≡ accepted → t ≡ ticked_of s.clock s.settings.period delta
      → c ≡ settled_of s.settings t.clock heard → next ≡ synced_of s c seconds
      → Updates (unplayed_of accepted next t.request len) r last → Updates (clock_moved_by s delta seconds worldly heard len) r last
  clock_moved k ht hc hx h =
      updates_as
      ((λ i. unplayed_of accepted
      ((hx ∙ (λ j. synced_of s ((hc ∙ ap (λ (x : Ticked). settled_of s.settings x.clock heard) ht) j) seconds)) i) (ht i).request len)
      ∙ sym (by_verdict s len _ accepted hn k)) h

-- ---- an update of the worlds

-- the reply to an update once its frames have ended and left the scene v
unfoldable concluded_by : Session → Clock → Bool → Scene → Advanced → List ℕ → Reply
concluded_by s c request v a tape = unless_refused (end_verdict_of s.settings a (length tape)) s (length tape) (accepted_by s c request v a tape)

-- a run before its end, as the code holds it
module _ (s : Session) (c : Clock) (request : Bool) (u : Run) {was mid : List ℕ} {v : Scene} {a : Advanced} (h : Advances u was v a mid) where
  place : a.at ≡ length u.played.words
  place = omega (arith, h.puts.at)

  long : length mid ≡ length was
  long = puts-length h.puts

  -- the verdict at its end
  verdict : Verdict
  verdict = end_verdict_by u.stop (weight_ok (tween_of u.overshoot s.settings.timestep)) (leb (length u.played.words) (length was))

  verdict_is : end_verdict_of s.settings a (length mid) ≡ verdict
  unfolding verdict
  verdict_is = λ i. end_verdict_by (h.stop i) (weight_ok (tween_of (h.overshoot i) s.settings.timestep)) (leb (place i) (long i))

  -- the accepted reply to a run is the one to the run as the code holds it
  accepted_is : leb (length u.played.words) (length was) ≡ true
      → accepted_by s c request v a mid ≡ accepted_of s c request (finished_of s.settings u) (length was)
  unfolding accepted_by accepted_of
  accepted_is e =
      let t : cleared mid a.at ≡ u.played.words ++ replicate (length was - length u.played.words) 0 =
      (λ i. cleared (h.puts.tape i) (place i)) ∙ cleared_after u.played.words was (leb-true _ _ e) in
      let w : ended_of s.settings v.worlds a.overshoot ≡ ended_of s.settings u.played.scene.worlds u.overshoot =
      λ i. ended_of s.settings (h.scene i).worlds (h.overshoot i) in
      λ i. record {
        refusal = accepted;
        session = session_with s (stage_after s.stage (w i).published.time) c (w i) (h.overshoot i);
        frames = h.frames i;
        steps = (h.scene i).steps;
        request = request;
        left = closed_of (h.scene i).left (w i).left.commands;
        right = closed_of (h.scene i).right (w i).right.commands;
        words = place i;
        tape = t i;
      }

  -- by its verdict
  concluded_by_lem : (x : Verdict) → verdict ≡ x
      → unless_refused x s (length mid) (accepted_by s c request v a mid)
      ≡ unless_refused x s (length was) (accepted_of s c request (finished_of s.settings u) (length was))
  unfolding verdict
  concluded_by_lem (Ok x) e =
      accepted_is (end_accepted u.stop (weight_ok (tween_of u.overshoot s.settings.timestep)) (leb (length u.played.words) (length was)) e).2
  concluded_by_lem (Err q) e = λ i. refused_with q s (long i)

  -- the reply to a run as the code holds it is the reply to the run with its end
  concluded_is : concluded_by s c request v a mid ≡ concluded_of s c request (finished_of s.settings u) (length was)
  unfolding concluded_by concluded_of verdict
  concluded_is = (λ i. unless_refused (verdict_is i) s (length mid) (accepted_by s c request v a mid)) ∙ concluded_by_lem verdict refl

module _ (s : Session) (delta seconds : Float) (inbox : List ℕ) {scan : Scan} {scene : Scene} {got : Received} {n : Verdict}
    (hz : Scanned s seconds inbox scan) (hs : scene ≡ scene_of s) (hg : got ≡ arrived_in inbox (none_received scene))
    (hn : n ≡ arrival_verdict_by scan.heard.other got.full) where
  -- what was received
  received_is : got ≡ arrived_in inbox (unreceived s)
  received_is = hg ∙ (λ i. arrived_in inbox (none_received (hs i)))

  -- the verdict by what arrived
  arrival_is : n ≡ arrival_verdict_by (heard_other s seconds inbox) (received_in inbox (unreceived s)).full
  arrival_is = hn ∙ (λ i. arrival_verdict_by (hz.heard i).other (received_is i).full)

  pub worlds_refused : (len : ℕ) {e : Refusal} → n ≡ Err e → worlds_update_of s delta seconds inbox len ≡ refused_with e s len
  unfolding worlds_update_of
  worlds_refused len {e} k = by_verdict s len _ (Err e) arrival_is k

  module _ {was mid : List ℕ} {t : Ticked} {c : Clock} {x : Float} {v : Scene} {a : Advanced} (z : n ≡ accepted)
      (ht : t ≡ ticked_of s.clock s.settings.period delta) (hc : c ≡ settled_of s.settings t.clock scan.heard)
      (hx : x ≡ unwrap_or (server_seconds_of c.offset seconds) seconds)
      (ha : Advances (unended_of s.settings got.scene s.overshoot delta (add binary64 x s.settings.lag)) was v a mid) where
    worlds_played : worlds_update_of s delta seconds inbox (length was) ≡ concluded_by s c t.request v a mid
    unfolding worlds_update_of played_of updated_of
    worlds_played =
        let d : Clock = clock_after s delta seconds inbox in
        let k : c ≡ d = hc ∙ (λ i. settled_of s.settings (ht i).clock (hz.heard i)) in
        let y : x ≡ unwrap_or (server_seconds_of d.offset seconds) seconds = hx ∙ (λ i. unwrap_or (server_seconds_of (k i).offset seconds) seconds) in
        let u : Run = unended_of s.settings (scene_after s inbox) s.overshoot delta (lagged_of s d seconds) in
        let b : Advances u was v a mid = subst (λ (q : Run). Advances q was v a mid)
        (λ i. unended_of s.settings (received_is i).scene s.overshoot delta (add binary64 (y i) s.settings.lag)) ha in
        by_verdict s (length was) _ accepted arrival_is z
        ∙ sym ((λ i. concluded_by s (k i) (ht i).request v a mid) ∙ concluded_is s d (request_of s delta) u b)

    -- refused at its end
    pub worlds_stopped : {m : Verdict} {e : Refusal} → m ≡ end_verdict_of s.settings a (length mid) → m ≡ Err e
        → worlds_update_of s delta seconds inbox (length was) ≡ refused_with e s (length was)
    unfolding concluded_by
    worlds_stopped {m} {e} hm k =
        worlds_played ∙ by_verdict s (length mid) (accepted_by s c t.request v a mid) (Err e) hm k ∙ (λ i. refused_with e s (puts-length ha.puts i))

    -- accepted
    pub worlds_accepted : {m : Verdict} {r : UpdateAnswer} {last : List ℕ} → m ≡ end_verdict_of s.settings a (length mid) → m ≡ accepted
        → Updates (accepted_by s c t.request v a mid) r last → Updates (worlds_update_of s delta seconds inbox (length was)) r last
    unfolding concluded_by
    worlds_accepted {m} {r} {last} hm k h =
        updates_as (sym (worlds_played ∙ by_verdict s (length mid) (accepted_by s c t.request v a mid) accepted hm k)) h

-- ---- update

module _ (s : Session) (delta seconds : Float) (inbox : List ℕ) (len : ℕ) {n : Verdict} (hn : n ≡ verdict_at_once s delta seconds inbox) where
  pub update_refused : {e : Refusal} → n ≡ Err e → update_of s delta seconds inbox len ≡ refused_with e s len
  unfolding update_of
  update_refused {e} k = by_verdict s len _ (Err e) hn k

  pub update_is : (x : Bool) {w : Bool} → n ≡ accepted → w ≡ has_worlds s.stage → w ≡ x → update_by x s delta seconds inbox len
      ≡ update_of s delta seconds inbox len
  unfolding update_of
  update_is x e hw k = (λ i. update_by ((sym k ∙ hw) i) s delta seconds inbox len) ∙ sym (by_verdict s len _ accepted hn e)

-- the same decision on another reply of the same value
pub decided_as : (was : Session) (len : ℕ) (d : Result Updated Refusal) (now : Session) (last : List ℕ) {x y : Reply} → x ≡ y → decided x was len d now last
    → decided y was len d now last
decided_as was len d now last e h = subst (λ (z : Reply). decided z was len d now last) e h
