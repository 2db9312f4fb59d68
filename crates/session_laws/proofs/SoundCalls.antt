-- Every session that an accepted open, update or issue returns is sound, and a refused update or issue returns the session that it was handed. Assumes nothing.
use mathlib.Core.Path.{◌≡◌, refl, sym, ap, ◌∙◌, subst}
use mathlib.Core.List.{List}
use mathlib.Core.Bool.{Bool, true, false, cond}
use Prim.Native.Nat.{ℕ, ◌<◌}
use native.Mathlib.Omega.{arith}
use lib.Dec.{T}
use lib.ListN.{length}
use lib.Ieee.{Float, binary64, fits, add, le}
use Rattle.timestamp.specs.Floats.{zero64, tween_of, least64}
use Rattle.float_laws.proofs.Order.{float_le_trans}
use Rattle.timestamp.specs.declared.Timestamp.{Timestamp}
use Rattle.timestamp.specs.Timestamps.{bits_of}
use Rattle.timestamp.specs.FloatTimestamps.{from_seconds, stamp_of}
use Rattle.timestamp.proofs.Basics.{not_true, not_false}
use Rattle.settings.specs.declared.Settings.{Settings}
use Rattle.settings.specs.Settings.{passes_of}
use Rattle.settings.proofs.Limits.{timestep_within}
use Rattle.refusals.specs.Limits.{handle_room}
use Rattle.refusals.specs.declared.Refusal.{Refusal}
use Rattle.refusals.specs.Refusals.{Verdict, accepted as accepts}
use Rattle.refusals.proofs.Accepted.{turned_down as refusal_stands, open_accepted, open_refused}
use Rattle.command.proofs.Entries.{entry_plain}
use Rattle.client_publish.specs.Ending.{weight_ok}
use Rattle.clocksync.specs.declared.Clock.{Clock}
use Rattle.std.specs.Prelude.{Option, Some, None, is_some, is_none}
use Rattle.clocksync.specs.Clock.{new_of, server_seconds_of, both_of, ready_of, sound_clock}
use Rattle.clocksync.proofs.Sound.{parts_of, new_sound}
use Rattle.client_receive.specs.Receive.{received_of}
use Rattle.session_state.specs.Session.{has_worlds, with_clock, with_worlds_of}
use Rattle.session_laws.specs.Soundness.{FloatsFit, OpenSound, OpenUnsound, UpdateSound, IssueSound}
use Rattle.session_laws.proofs.Ways.{without_worlds, Judged, run_in, update_by_ways, issue_by_ways}
use Rattle.session_laws.proofs.SoundWorlds.{new_kept, new_weighed, received_kept, received_weighed}
use Rattle.refusals.specs.declared.Stop.TheVariants.{Done}
use Rattle.fixed_timestepper.specs.TimeKeeper.{updated_of}
use Rattle.session_laws.proofs.SoundRuns.{InStep, updated_kept, updated_weighed, updated_overshoot}
use Rattle.session_state.specs.declared.Stage.{Stage}
use Rattle.session_state.specs.declared.Stage.TheVariants.{SyncingClock, SyncingInitialState, Ready}
use Rattle.session_state.specs.declared.Session.{Session}
use Rattle.session_issue.specs.declared.IssueAnswer.{IssueAnswer}
use Rattle.session_state.specs.Sound.{connected_of, sound_of}
use Rattle.session.specs.Calls.{start_of, open_of, times_ok, clock_after, request_of, lagged_of, scene_after, played_of, update_of}
use Rattle.session_answers.specs.Answers.{Reply, refused_with, accepted_of}
use Rattle.session_stage.specs.Stage.{started_at, synced_of, stage_after}
use Rattle.session_state.specs.Session.{scene_of}
use Rattle.session_issue.specs.Issue.{issue_stamp, issued_entry, issue_of}
use Rattle.session_laws.proofs.SoundParts.{sound_facts, facts_sound, times_within, clock_after_sound, clock_after_timer, clock_after_slots}
use Rattle.session_laws.proofs.SoundParts.{clock_after_ready, clock_after_first, server_within, scene_after_kept, scene_after_weighed}

-- ---- open

-- a timestep is at least 0
step_low : (c : Settings) → passes_of c ≡ true → T (le zero64 c.timestep)
unfolding le
step_low c pass = let w = timestep_within c pass in float_le_trans zero64 least64 c.timestep tt w.low

-- an overshoot of 0
nought_in : (c : Settings) → passes_of c ≡ true → InStep c.timestep zero64
unfolding le
nought_in c pass = record { number = tt; low = tt; high = step_low c pass }

-- settings that pass start a sound session
pub start_sound : (c : Settings) → passes_of c ≡ true → sound_of (start_of c) ≡ true
unfolding start_of new_of connected_of
start_sound c pass =
    facts_sound (start_of c)
    (record {
      settings = pass;
      clock = new_sound c pass;
      connected = refl;
      kept = new_kept (record { 0 = 0 });
      weighed = new_weighed (record { 0 = 0 });
      overshoot = nought_in c pass;
    })

-- every session that an accepted open returns is sound
pub open_sound : OpenSound
unfolding OpenSound open_of
open_sound c h = start_sound c (open_accepted (passes_of c) h)

-- the session that a refused open returns is not
pub open_unsound : OpenUnsound
unfolding OpenUnsound open_of start_of
open_unsound c h = go (sound_of (start_of c)) (λ e. (sound_facts (start_of c) e).settings)
  where
    go : (b : Bool) → (b ≡ true → passes_of c ≡ true) → b ≡ false
    go true f = not_true (sym (open_refused (passes_of c) h) ∙ f refl)
    go false f = refl

-- ---- a session without worlds has no offset

pub no_worlds_no_offset : (s : Session) → sound_of s ≡ true → s.stage ≡ SyncingClock → s.clock.offset ≡ None
unfolding connected_of
no_worlds_no_offset s h e = go s.clock.offset (subst (λ (x : Stage). connected_of x s.clock ≡ true) e (sound_facts s h).connected)
  where
    go : (o : Option Float) → is_none o ≡ true → o ≡ None
    go None k = refl
    go (Some x) k = not_true k

-- ---- an update while the clock syncs

-- what is known of an update that is not refused at once
record Given (s : Session) (delta seconds : Float) : Type 0 where
  times : times_ok delta seconds ≡ true
  sound : sound_of s ≡ true
  fit : FloatsFit s

module _ (s : Session) (delta seconds : Float) (inbox : List ℕ) (g : Given s delta seconds) where
  after_sound : sound_clock s.settings (clock_after s delta seconds inbox) ≡ true
  after_sound = let f = sound_facts s g.sound in clock_after_sound s delta seconds inbox g.fit f.settings g.times f.clock

  started_sound : (o : Option Float) → (clock_after s delta seconds inbox).offset ≡ o → ready_of (clock_after s delta seconds inbox) ≡ true
      → sound_of (started_at s (clock_after s delta seconds inbox) (server_seconds_of o seconds)) ≡ true
  unfolding connected_of
  started_sound None e r = not_true (sym (ap (λ (o : Option Float). both_of o (clock_after s delta seconds inbox).id) e) ∙ r)
  started_sound (Some x) e r =
      let f = sound_facts s g.sound in
      let c = clock_after s delta seconds inbox in
      let t : Timestamp = record { 0 = bits_of (stamp_of (from_seconds (add binary64 seconds x) s.settings.timestep)) } in
      facts_sound (started_at s c (server_seconds_of (Some x) seconds))
      (record {
        settings = f.settings;
        clock = after_sound;
        connected = r;
        kept = new_kept t;
        weighed = new_weighed t;
        overshoot = nought_in s.settings f.settings;
      })

  waiting_sound : s.stage ≡ SyncingClock → ready_of (clock_after s delta seconds inbox) ≡ false → sound_of (with_clock s (clock_after s delta seconds
      inbox)) ≡ true
  unfolding connected_of
  waiting_sound e r =
      let f = sound_facts s g.sound in
      let c = clock_after s delta seconds inbox in
      facts_sound (with_clock s c)
      (record {
        settings = f.settings;
        clock = after_sound;
        connected = subst (λ (x : Stage). connected_of x c ≡ true) (sym e) (none c.offset refl);
        kept = f.kept;
        weighed = f.weighed;
        overshoot = f.overshoot;
      })
    where
      none : (o : Option Float) → (clock_after s delta seconds inbox).offset ≡ o → is_none o ≡ true
      none None i = refl
      none (Some x) i = not_false (sym (clock_after_first s delta seconds inbox (no_worlds_no_offset s g.sound e) (ap is_some i)) ∙ r)

  synced_sound : s.stage ≡ SyncingClock → sound_of (synced_of s (clock_after s delta seconds inbox) seconds) ≡ true
  unfolding synced_of
  synced_sound e = go (ready_of (clock_after s delta seconds inbox)) refl
    where
      go : (b : Bool) → ready_of (clock_after s delta seconds inbox) ≡ b
          → sound_of (cond b (started_at s (clock_after s delta seconds inbox) (server_seconds_of (clock_after s delta seconds inbox).offset seconds))
          (with_clock s (clock_after s delta seconds inbox))) ≡ true
      go true r = started_sound (clock_after s delta seconds inbox).offset refl r
      go false r = waiting_sound e r

  after_fit : (w : Session) → w.settings ≡ s.settings → w.clock ≡ clock_after s delta seconds inbox → FloatsFit w
  after_fit w e i =
      record {
        timestep = subst (λ (c : Settings). T (fits binary64 c.timestep)) (sym e) g.fit.timestep;
        timer = subst (λ (c : Clock). T (fits binary64 c.timer)) (sym i) (clock_after_timer s delta seconds inbox);
        slots = ap (λ (c : Clock). length c.samples) i ∙ clock_after_slots s delta seconds inbox g.fit.slots;
      }

  started_fit : (o : Option Float) → FloatsFit (started_at s (clock_after s delta seconds inbox) (server_seconds_of o seconds))
  started_fit None = g.fit
  started_fit (Some x) = after_fit _ refl refl

  synced_fit : FloatsFit (synced_of s (clock_after s delta seconds inbox) seconds)
  unfolding synced_of
  synced_fit = go (ready_of (clock_after s delta seconds inbox))
    where
      go : (b : Bool) → FloatsFit (cond b (started_at s (clock_after s delta seconds inbox)
          (server_seconds_of (clock_after s delta seconds inbox).offset seconds)) (with_clock s (clock_after s delta seconds inbox)))
      go true = started_fit (clock_after s delta seconds inbox).offset
      go false = after_fit (with_clock s (clock_after s delta seconds inbox)) refl refl

-- what is shown of the session that an accepted call returns
pub record Good (s : Session) : Type 0 where
  pub sound : sound_of s ≡ true
  pub fit : FloatsFit s

-- a refused answer is not accepted
refused_not : (e : Refusal) (s : Session) (len : ℕ) {X : Type 0} → (refused_with e s len).refusal ≡ accepts → X
unfolding refused_with
refused_not e s len h = refusal_stands e h

-- ---- an update once worlds exist

stage_connected : (x : Stage) (t : Option Float) (c : Clock) → (x ≡ SyncingClock → ⊥) → ready_of c ≡ true → connected_of (stage_after x t) c ≡ true
unfolding connected_of
stage_connected SyncingClock t c n r = absurd (n refl)
stage_connected SyncingInitialState None c n r = r
stage_connected SyncingInitialState (Some y) c n r = r
stage_connected Ready t c n r = r

stage_ready : (x : Stage) (c : Clock) → (x ≡ SyncingClock → ⊥) → connected_of x c ≡ true → ready_of c ≡ true
unfolding connected_of
stage_ready SyncingClock c n h = absurd (n refl)
stage_ready SyncingInitialState c n h = h
stage_ready Ready c n h = h

module _ (s : Session) (delta seconds : Float) (inbox : List ℕ) (g : Given s delta seconds) (n : s.stage ≡ SyncingClock → ⊥) where
  accepted_good : (request : Bool) (len : ℕ) → (run_in s delta seconds inbox).stop ≡ Done
      → weight_ok (tween_of (run_in s delta seconds inbox).overshoot s.settings.timestep) ≡ true
      → Good (accepted_of s (clock_after s delta seconds inbox) request (run_in s delta seconds inbox) len).session
  unfolding accepted_of played_of
  accepted_good request len e ok =
      let f = sound_facts s g.sound in
      let c = clock_after s delta seconds inbox in
      let server = lagged_of s c seconds in
      let k = after_sound s delta seconds inbox g in
      let w = server_within s.settings c.offset seconds f.settings (times_within delta seconds g.times).1 (parts_of s.settings c k).offset in
      let t = scene_after s inbox in
      let r = updated_of s.settings t s.overshoot delta server in
      record {
        sound = facts_sound _ (record {
          settings = f.settings;
          clock = k;
          connected = stage_connected s.stage r.played.scene.worlds.published.time c n
              (clock_after_ready s delta seconds inbox (stage_ready s.stage s.clock n f.connected));
          kept = updated_kept s.settings f.settings t s.overshoot delta server (scene_after_kept s inbox f.kept);
          weighed = updated_weighed s.settings f.settings t s.overshoot delta server (scene_after_weighed s inbox f.weighed);
          overshoot = updated_overshoot s.settings f.settings g.fit.timestep t s.overshoot delta server w f.overshoot e ok;
        });
        fit = after_fit s delta seconds inbox g _ refl refl;
      }

-- ---- update

update_good : (s : Session) (delta seconds : Float) (inbox : List ℕ) (len : ℕ) → FloatsFit s → (update_of s delta seconds inbox len).refusal ≡ accepts
    → Good (update_of s delta seconds inbox len).session
update_good s delta seconds inbox len f =
    update_by_ways {P = λ a. a.refusal ≡ accepts → Good a.session} s delta seconds inbox len
    (record {
      refuses = λ q e. refused_not q s len e;
      syncs = λ j w e. record
          { sound = synced_sound s delta seconds inbox (given j) (without_worlds s.stage w); fit = synced_fit s delta seconds inbox (given j) };
      plays = λ j w d ok e. accepted_good s delta seconds inbox (given j) (λ z. not_false (sym w ∙ ap has_worlds z)) (request_of s delta) len d ok;
    })
  where
    given : Judged s delta seconds inbox → Given s delta seconds
    given j = record { times = j.times; sound = j.sound; fit = f }

-- every session that an accepted update returns is sound, whatever session it was handed
pub update_sound : UpdateSound
unfolding UpdateSound
update_sound s delta seconds inbox len f k = (update_good s delta seconds inbox len f k).sound

-- ---- a refused update returns the session

-- an answer that is accepted, or has the session that was handed in
pub data Either (v : Verdict) (s t : Session) : Type 0 where
  accepted : v ≡ accepts → Either v s t
  handed_back : t ≡ s → Either v s t

refused_back : (e : Refusal) (s : Session) (len : ℕ) → Either (refused_with e s len).refusal s (refused_with e s len).session
unfolding refused_with
refused_back e s len = handed_back refl

abbrev Back : Session → Reply → Type 0
Back s a = Either a.refusal s a.session

update_back : (s : Session) (delta seconds : Float) (inbox : List ℕ) (len : ℕ) → Back s (update_of s delta seconds inbox len)
unfolding accepted_of
update_back s delta seconds inbox len =
    update_by_ways {P = Back s} s delta seconds inbox len
    (record { refuses = λ e. refused_back e s len; syncs = λ j w. accepted refl; plays = λ j w d ok. accepted refl })

-- what the types say of the session goes on holding, refused or not
pub update_fits : (s : Session) (delta seconds : Float) (inbox : List ℕ) (len : ℕ) → FloatsFit s
    → FloatsFit (update_of s delta seconds inbox len).session
update_fits s delta seconds inbox len f = go (update_back s delta seconds inbox len)
  where
    go : Back s (update_of s delta seconds inbox len) → FloatsFit (update_of s delta seconds inbox len).session
    go (accepted e) = (update_good s delta seconds inbox len f e).fit
    go (handed_back e) = subst FloatsFit (sym e) f

-- a sound session is followed by a sound one, refused or not
pub update_stays_sound : (s : Session) (delta seconds : Float) (inbox : List ℕ) (len : ℕ) → FloatsFit s → sound_of s ≡ true
    → sound_of (update_of s delta seconds inbox len).session ≡ true
update_stays_sound s delta seconds inbox len f h = go (update_back s delta seconds inbox len)
  where
    go : Back s (update_of s delta seconds inbox len) → sound_of (update_of s delta seconds inbox len).session ≡ true
    go (accepted e) = (update_good s delta seconds inbox len f e).sound
    go (handed_back e) = subst (λ (t : Session). sound_of t ≡ true) (sym e) h

-- ---- issue

received_good : (s : Session) (h : ℕ) → h < handle_room → sound_of s ≡ true
    → sound_of (with_worlds_of s (received_of (scene_of s) (issued_entry s h)).scene.worlds) ≡ true
received_good s h i k =
    let f = sound_facts s k in
    let w = (received_of (scene_of s) (issued_entry s h)).scene.worlds in
    facts_sound (with_worlds_of s w)
    (record {
      settings = f.settings;
      clock = f.clock;
      connected = f.connected;
      kept = received_kept (scene_of s) (issued_entry s h) (entry_plain (issue_stamp s) h (omega arith) i) f.kept;
      weighed = received_weighed (scene_of s) (issued_entry s h) f.weighed;
      overshoot = f.overshoot;
    })

-- an issue's answer is accepted and leaves a sound session, or hands the session back
pub data Issued (s : Session) (a : IssueAnswer) : Type 0 where
  taken : a.refusal ≡ accepts → sound_of s ≡ true → sound_of a.session ≡ true → (FloatsFit s → FloatsFit a.session) → Issued s a
  turned_down : (a.refusal ≡ accepts → ⊥) → a.session ≡ s → Issued s a

-- the two ways of an issue
pub issue_ways : (s : Session) (h : ℕ) → Issued s (issue_of s h)
issue_ways s h =
    issue_by_ways (Issued s) s h (λ e. turned_down (refusal_stands e) refl)
    (λ i k. taken refl k (received_good s h i k) (λ f. record { timestep = f.timestep; timer = f.timer; slots = f.slots }))

-- every session that an accepted issue returns is sound
pub issue_sound : IssueSound
unfolding IssueSound
issue_sound s h e = go (issue_ways s h)
  where
    go : Issued s (issue_of s h) → sound_of (issue_of s h).session ≡ true
    go (taken z k w f) = w
    go (turned_down z w) = absurd (z e)

-- what the types say of the session goes on holding
pub issue_fits : (s : Session) (h : ℕ) → FloatsFit s → FloatsFit (issue_of s h).session
issue_fits s h f = go (issue_ways s h)
  where
    go : Issued s (issue_of s h) → FloatsFit (issue_of s h).session
    go (taken z k w g) = g f
    go (turned_down z w) = subst FloatsFit (sym w) f

-- a sound session is followed by a sound one, refused or not
pub issue_stays_sound : (s : Session) (h : ℕ) → sound_of s ≡ true → sound_of (issue_of s h).session ≡ true
issue_stays_sound s h k = go (issue_ways s h)
  where
    go : Issued s (issue_of s h) → sound_of (issue_of s h).session ≡ true
    go (taken z j w g) = w
    go (turned_down z w) = subst (λ (t : Session). sound_of t ≡ true) (sym w) k
