-- The parts of a sound session, as the tests say them and as facts; and what one update does to the clock and to what arrives. Assumes nothing.
use mathlib.Core.Path.{◌≡◌, refl, ap, ◌∙◌}
use mathlib.Core.List.{List, [], ◌∷◌, ◌++◌}
use mathlib.Core.Bool.{Bool, true, false, cond, ◌&&◌, false≢true}
use Prim.Native.Nat.{ℕ, ◌+◌, ◌-◌, ◌^◌, ◌≤◌}
use native.Mathlib.Omega.{arith}
use lib.Dec.{T, eqb, ltb, lit<, lit≤}
use lib.IntN.{pos}
use lib.ListN.{length, drop, replicate, length-append, length-take, length-drop, length-replicate}
use lib.Ieee.{Float, fin, binary64, fits, add, lt, le, eq}
use lib.Ieee.Bits.{is_true}
use lib.Ieee.Fits.{and_l, and_r}
use borrow.Author.Tests.{lt-ltb, ltb-true, eqb-true, eq-eqb}
use Rattle.float_laws.specs.Bounds.{Within}
use Rattle.timestamp.specs.Floats.{zero64, one64, between, time_ok}
use Rattle.float_laws.proofs.Order.{between_finite, float_le_trans}
use Rattle.float_laws.proofs.Within.{within_widen, within_of_tests, add_within}
use Rattle.timestamp.proofs.Basics.{holds_true, not_true}
use Rattle.settings.specs.declared.Settings.{Settings}
use Rattle.settings.specs.Settings.{passes_of, samples_to_discard_of, samples_to_store_of}
use Rattle.timestamp.proofs.Tests.{apart, both}
use Rattle.settings.proofs.Limits.{timestep_within, lag_within}
use Rattle.command.specs.Soundness.{sound_buffer}
use Rattle.std.specs.Prelude.{Ok, Err}
use Rattle.inbox.specs.declared.Message.TheVariants.{Command, Snapshot, Clock}
use Rattle.inbox.specs.Inbox.{Reading, messages_of}
use Rattle.inbox.specs.Passes.{over}
use Rattle.inbox.proofs.Passes.{Each, over_keeps}
use Rattle.inbox.proofs.Bounds.{Bounded, messages_bounded}
use Rattle.clocksync.specs.declared.Clock.{Clock as ClockState}
use Rattle.clocksync.specs.declared.Heard.{Heard}
use Rattle.clocksync.specs.declared.Ticked.{Ticked}
use Rattle.client.specs.declared.QueuedSnapshot.{QueuedSnapshot}
use Rattle.std.specs.Prelude.{Option, Some, None, is_some, unwrap_or}
use Rattle.tape.specs.Sides.{is_left}
use Rattle.mean.specs.Mean.{mean_of}
use Rattle.clocksync.specs.Clock.{laid_out, held_of, timed_of, ticked_of, listen_of, heard_of, offset_after, sampled_of, filled_of, named_of, sample_of}
use Rattle.clocksync.specs.Clock.{settled_of}
use Rattle.clocksync.specs.Clock.{server_seconds_of, ready_of, offset_ok, sound_clock}
use Rattle.clocksync.proofs.Sound.{sample_within, measured_ok, clock_sound, clock_timer_fits}
use Rattle.clocksync.proofs.Ready.{ready_id, heard_id, ready_stays, first_offset_ready}
use Rattle.command.specs.Entries.{entry_of}
use Rattle.command.proofs.Entries.{entry_plain}
use Rattle.client.specs.declared.ClientWorldSimulations.{ClientWorldSimulations}
use Rattle.client_receive.specs.Receive.{Received}
use Rattle.client.specs.Sides.{new_side_of, old_side_of, world_of, old_stamp_of, new_stamp_of}
use Rattle.session_laws.specs.Soundness.{FloatsFit}
use Rattle.session_laws.proofs.SoundWorlds.{SmallQueued, InitOrder, Kept, Weighed, is_nought, is_even, received_kept, received_weighed, noted_kept}
use Rattle.session_laws.proofs.SoundWorlds.{noted_weighed}
use Rattle.session_laws.proofs.SoundFrames.{weighed_unit}
use Rattle.session_laws.proofs.SoundRuns.{InStep}
use Rattle.session_state.specs.declared.Session.{Session}
use Rattle.session_state.specs.Sound.{queued_sound, weight_sound, init_sound, buffers_sound, worlds_sound, overshoot_sound, connected_of, sound_of}
use Rattle.inbox_passes.specs.Passes.{hear_one, heard_in, receive_one, received_in, note_one, noted_in}
use Rattle.session.specs.Calls.{times_ok, clock_after, scene_after, unreceived}

-- ---- sound worlds

queued_tells : (q : Option QueuedSnapshot) → queued_sound q ≡ true → SmallQueued q
unfolding queued_sound
queued_tells None h = tt
queued_tells (Some q) h = ltb-true q.handle (2 ^ 24) h

queued_holds : (q : Option QueuedSnapshot) → SmallQueued q → queued_sound q ≡ true
unfolding queued_sound
queued_holds None h = refl
queued_holds (Some q) h = lt-ltb q.handle (2 ^ 24) h

weight_tells : (w : ClientWorldSimulations) → weight_sound w ≡ true → Weighed w
unfolding weight_sound
weight_tells w h = go (eqb (old_stamp_of w).0 (new_stamp_of w).0) (eqb-true (old_stamp_of w).0 (new_stamp_of w).0) h
  where
    go : (b : Bool) → (b ≡ true → (old_stamp_of w).0 ≡ (new_stamp_of w).0) → cond b (between zero64 one64 w.weight) (eq w.weight zero64) ≡ true → Weighed w
    go true e i = let a = apart (le zero64 w.weight) (le w.weight one64) i in
        is_even (e refl) (holds_true (le zero64 w.weight) a.0) (holds_true (le w.weight one64) a.1)
    go false e i = is_nought (holds_true (eq w.weight zero64) i)

weight_holds : (w : ClientWorldSimulations) → Weighed w → weight_sound w ≡ true
unfolding weight_sound
weight_holds w h = by h
  where
    unit : between zero64 one64 w.weight ≡ true
    unit = let u = weighed_unit w h in both (is_true (le zero64 w.weight) u.0) (is_true (le w.weight one64) u.1)

    go : (b : Bool) → T (eq w.weight zero64) → cond b (between zero64 one64 w.weight) (eq w.weight zero64) ≡ true
    go true i = unit
    go false i = is_true (eq w.weight zero64) i

    by : Weighed w → cond (eqb (old_stamp_of w).0 (new_stamp_of w).0) (between zero64 one64 w.weight) (eq w.weight zero64) ≡ true
    by (is_nought i) = go (eqb (old_stamp_of w).0 (new_stamp_of w).0) i
    by (is_even e a b) = ap (λ (x : Bool). cond x (between zero64 one64 w.weight) (eq w.weight zero64))
        (eq-eqb (old_stamp_of w).0 (new_stamp_of w).0 e) ∙ unit

implied : (a b : Bool) → cond a b true ≡ true → a ≡ true → b ≡ true
implied true b h e = h
implied false b h e = not_true e

implies : (a b : Bool) → (a ≡ true → b ≡ true) → cond a b true ≡ true
implies true b f = f refl
implies false b f = refl

init_tells : (w : ClientWorldSimulations) → init_sound w ≡ true → InitOrder (is_left w.new) w.left.init w.right.init
unfolding init_sound world_of old_side_of new_side_of
init_tells w h = go (is_left w.new) h
  where
    go : (b : Bool) → cond (cond (eqb (cond b 1 0) 0) w.left w.right).init (cond (eqb (cond b 0 1) 0) w.left w.right).init true ≡ true
        → InitOrder b w.left.init w.right.init
    go true i = implied w.right.init w.left.init i
    go false i = implied w.left.init w.right.init i

init_holds : (w : ClientWorldSimulations) → InitOrder (is_left w.new) w.left.init w.right.init → init_sound w ≡ true
unfolding init_sound world_of old_side_of new_side_of
init_holds w h = go (is_left w.new) h
  where
    go : (b : Bool) → InitOrder b w.left.init w.right.init
        → cond (cond (eqb (cond b 1 0) 0) w.left w.right).init (cond (eqb (cond b 0 1) 0) w.left w.right).init true ≡ true
    go true i = implies w.right.init w.left.init i
    go false i = implies w.left.init w.right.init i

-- worlds that pass the test, as facts
pub worlds_tell : (w : ClientWorldSimulations) → worlds_sound w ≡ true → Kept w × Weighed w
unfolding worlds_sound buffers_sound
worlds_tell w h =
    let l = sound_buffer w.left.commands in
    let r = sound_buffer w.right.commands in
    let b = sound_buffer w.base in
    let q = queued_sound w.snapshots.queued in
    let a = apart (buffers_sound w) (q && (weight_sound w && init_sound w)) h in
    let c = apart q (weight_sound w && init_sound w) a.1 in
    let d = apart (weight_sound w) (init_sound w) c.1 in
    let e = apart l (r && b) a.0 in
    let f = apart r b e.1 in
    (record { left = e.0; right = f.0; base = f.1; queued = queued_tells w.snapshots.queued c.0; init = init_tells w d.1 }, weight_tells w d.0)

-- and back
pub worlds_hold : (w : ClientWorldSimulations) → Kept w → Weighed w → worlds_sound w ≡ true
unfolding worlds_sound buffers_sound
worlds_hold w k h =
    both (both k.left (both k.right k.base)) (both (queued_holds w.snapshots.queued k.queued)
    (both (weight_holds w h) (init_holds w k.init)))

-- ---- a sound session

-- a session that passes the test, as facts
pub record SoundFacts (s : Session) : Type 0 where
  pub settings : passes_of s.settings ≡ true
  pub clock : sound_clock s.settings s.clock ≡ true
  pub connected : connected_of s.stage s.clock ≡ true
  pub kept : Kept s.worlds
  pub weighed : Weighed s.worlds
  pub overshoot : InStep s.settings.timestep s.overshoot

pub sound_facts : (s : Session) → sound_of s ≡ true → SoundFacts s
unfolding sound_of overshoot_sound
sound_facts s h =
    let p = passes_of s.settings in
    let c = sound_clock s.settings s.clock in
    let n = connected_of s.stage s.clock in
    let w = worlds_sound s.worlds in
    let x = overshoot_sound s.overshoot s.settings.timestep in
    let a = apart p (c && (n && (w && x))) h in
    let b = apart c (n && (w && x)) a.1 in
    let d = apart n (w && x) b.1 in
    let e = apart w x d.1 in
    let v = worlds_tell s.worlds e.0 in
    let o = apart (le zero64 s.overshoot) (le s.overshoot s.settings.timestep) e.1 in
    let lo = holds_true (le zero64 s.overshoot) o.0 in
    let hi = holds_true (le s.overshoot s.settings.timestep) o.1 in
    record {
      settings = a.0;
      clock = b.0;
      connected = d.0;
      kept = v.0;
      weighed = v.1;
      overshoot =
          record {
            number = between_finite zero64 s.overshoot s.settings.timestep tt (timestep_within s.settings a.0).number lo hi;
            low = lo;
            high = hi;
          };
    }

pub facts_sound : (s : Session) → SoundFacts s → sound_of s ≡ true
unfolding sound_of overshoot_sound
facts_sound s f =
    both f.settings
    (both f.clock
    (both f.connected
    (both (worlds_hold s.worlds f.kept f.weighed)
    (both (is_true (le zero64 s.overshoot) f.overshoot.low) (is_true (le s.overshoot s.settings.timestep) f.overshoot.high)))))

-- ---- times

pub times_within : (delta seconds : Float) → times_ok delta seconds ≡ true → Within delta 3600 × Within seconds (2 ^ 32)
unfolding times_ok
times_within delta seconds h =
    let a = apart (between (fin true 225 (pos 4)) (fin false 225 (pos 4)) delta) (between (fin true 1 (pos 32)) (fin false 1 (pos 32)) seconds) h in
    let d = apart (le (fin true 225 (pos 4)) delta) (le delta (fin false 225 (pos 4))) a.0 in
    let s = apart (le (fin true 1 (pos 32)) seconds) (le seconds (fin false 1 (pos 32))) a.1 in
    let dl = holds_true (le (fin true 225 (pos 4)) delta) d.0 in
    let dh = holds_true (le delta (fin false 225 (pos 4))) d.1 in
    let sl = holds_true (le (fin true 1 (pos 32)) seconds) s.0 in
    let sh = holds_true (le seconds (fin false 1 (pos 32))) s.1 in (
      within_of_tests delta (fin true 225 (pos 4)) (fin false 225 (pos 4)) 3600
          (between_finite (fin true 225 (pos 4)) delta (fin false 225 (pos 4)) tt tt dl dh) (refl, refl) (refl, refl) dl dh,
      within_of_tests seconds (fin true 1 (pos 32)) (fin false 1 (pos 32)) (2 ^ 32)
          (between_finite (fin true 1 (pos 32)) seconds (fin false 1 (pos 32)) tt tt sl sh) (refl, refl) (refl, refl) sl sh,
    )

time_within : (x : Float) → T (time_ok x) → Within x (2 ^ 32)
time_within x h =
    let l = and_l (le (fin true 1 (pos 32)) x) (le x (fin false 1 (pos 32))) h in
    let u = and_r (le (fin true 1 (pos 32)) x) (le x (fin false 1 (pos 32))) h in
    within_of_tests x (fin true 1 (pos 32)) (fin false 1 (pos 32)) (2 ^ 32) (between_finite (fin true 1 (pos 32)) x (fin false 1 (pos 32)) tt tt l u)
    (refl, refl) (refl, refl) l u

-- ---- the clock messages of an inbox

-- an offset that is heard passes the test of a sample
heard_ok : (seconds : Float) (h : Heard) (ms : List Reading) → Within seconds (2 ^ 32) → Each Bounded ms → offset_ok h.offset ≡ true →
    offset_ok (over (hear_one seconds) h ms).offset ≡ true
unfolding heard_of
heard_ok seconds h ms w b k = over_keeps (λ (x : Heard). offset_ok x.offset ≡ true) (hear_one seconds) one h ms b k
  where
    one : (x : Heard) (m : Reading) → Bounded m → offset_ok x.offset ≡ true → offset_ok (hear_one seconds x m).offset ≡ true
    one x (Ok (Command s n)) p q = q
    one x (Ok (Snapshot s n)) p q = q
    one x (Ok (Clock i s t)) p q = measured_ok s t seconds (time_within s p.1) (time_within t p.2) w
    one x (Err e) p q = q

-- a number that is known stays known, and an offset that is heard comes with one
pub record Known (had : Bool) (h : Heard) : Type 0 where
  pub kept : had ≡ true → is_some h.id ≡ true
  pub brought : is_some h.offset ≡ true → is_some h.id ≡ true

heard_known : (seconds : Float) (h : Heard) (ms : List Reading) (had : Bool) → Each Bounded ms → Known had h → Known had (over (hear_one seconds) h ms)
heard_known seconds h ms had b k = over_keeps (Known had) (hear_one seconds) one h ms b k
  where
    one : (x : Heard) (m : Reading) → Bounded m → Known had x → Known had (hear_one seconds x m)
    one x (Ok (Command s n)) p q = q
    one x (Ok (Snapshot s n)) p q = q
    one x (Ok (Clock i s t)) p q = let e = heard_id seconds x i s t in record { kept = λ z. e; brought = λ z. e }
    one x (Err e) p q = q

-- ---- the clock in an update

ticked_samples : (c : ClockState) (period delta : Float) → (ticked_of c period delta).clock.samples ≡ c.samples
unfolding ticked_of
ticked_samples c period delta = go (lt period (add binary64 c.timer delta)) (add binary64 c.timer delta)
  where
    go : (b : Bool) (t : Float) → (cond {A = Ticked} b (record { clock = timed_of c zero64; request = true })
        (record { clock = timed_of c t; request = false })).clock.samples ≡ c.samples
    go true t = refl
    go false t = refl

laid_slots : (xs : List Float) → length xs ≤ 64 → length (laid_out xs) ≡ 64
laid_slots xs h = length-append xs (replicate (64 - length xs) zero64) ∙ omega (arith, length-replicate (64 - length xs) zero64)

held_short : (c : ClockState) → length (held_of c) ≤ 63
unfolding held_of
held_short c = simp length-take (omega arith)

filled_slots : (s : Settings) (c : ClockState) (xs : List Float) → length xs ≤ 64 → length (filled_of s c xs).samples ≡ 64
unfolding filled_of
filled_slots s c xs h = go (ltb (length xs) (samples_to_store_of s))
  where
    go : (b : Bool) → length (cond {A = ClockState} b (sampled_of c c.offset xs)
        (sampled_of c (offset_after c.offset (mean_of (samples_to_discard_of s) xs) s.deviation) (drop 1 xs))).samples ≡ 64
    go true = laid_slots xs h
    go false = laid_slots (drop 1 xs) (simp length-drop (omega arith))

settled_slots : (s : Settings) (c : ClockState) (h : Heard) → length c.samples ≡ 64 → length (settled_of s c h).samples ≡ 64
unfolding settled_of
settled_slots s c h e = go h.offset
  where
    go : (o : Option Float) → length (sample_of s (named_of c h.id) o).samples ≡ 64
    go None = e
    go (Some x) =
        let n = named_of c h.id in
        filled_slots s n (held_of n ++ (x ∷ [])) (omega (arith, length-append (held_of n) (x ∷ []), held_short n))

module _ (s : Session) (delta seconds : Float) (inbox : List ℕ) where
  -- it is sound
  pub clock_after_sound : FloatsFit s → passes_of s.settings ≡ true → times_ok delta seconds ≡ true → sound_clock s.settings s.clock ≡ true
      → sound_clock s.settings (clock_after s delta seconds inbox) ≡ true
  unfolding heard_in
  clock_after_sound f pass ok h =
      let t = times_within delta seconds ok in
      let o = heard_ok seconds (listen_of s.clock) (messages_of inbox) t.1 (messages_bounded inbox) refl in
      clock_sound s.settings s.clock delta (heard_in seconds inbox (listen_of s.clock)) pass f.slots f.timer t.0 o h

  -- a value of the format in its timer, and 64 slots
  pub clock_after_timer : T (fits binary64 (clock_after s delta seconds inbox).timer)
  clock_after_timer = clock_timer_fits s.settings s.clock delta (heard_in seconds inbox (listen_of s.clock))

  pub clock_after_slots : length s.clock.samples ≡ 64 → length (clock_after s delta seconds inbox).samples ≡ 64
  clock_after_slots e = settled_slots s.settings (ticked_of s.clock s.settings.period delta).clock
      (heard_in seconds inbox (listen_of s.clock)) (ap length (ticked_samples s.clock s.settings.period delta) ∙ e)

  -- what is heard knows the client's number where the clock did, and where there is an offset
  known : Known (is_some s.clock.id) (heard_in seconds inbox (listen_of s.clock))
  unfolding heard_in
  known =
      heard_known seconds (listen_of s.clock) (messages_of inbox) (is_some s.clock.id) (messages_bounded inbox)
      (record { kept = λ z. z; brought = λ z. absurd (false≢true z) })

  -- a clock that is ready stays so
  pub clock_after_ready : ready_of s.clock ≡ true → ready_of (clock_after s delta seconds inbox) ≡ true
  clock_after_ready h =
      ready_stays s.settings s.clock delta (heard_in seconds inbox (listen_of s.clock)) h (known.kept (ready_id s.clock.offset s.clock.id h))

  -- the first offset comes with an id
  pub clock_after_first : s.clock.offset ≡ None → is_some (clock_after s delta seconds inbox).offset ≡ true
      → ready_of (clock_after s delta seconds inbox) ≡ true
  clock_after_first e h = first_offset_ready s.settings s.clock delta (heard_in seconds inbox (listen_of s.clock)) e known.brought h

-- the server's time with the lag is within 2^34
pub server_within : (c : Settings) (o : Option Float) (seconds : Float) → passes_of c ≡ true → Within seconds (2 ^ 32) → offset_ok o ≡ true
    → Within (add binary64 (unwrap_or (server_seconds_of o seconds) seconds) c.lag) (2 ^ 34)
unfolding le
server_within c o seconds pass w ok = go o ok
  where
    lag : Within c.lag 60
    lag =
        let l = lag_within c pass in
        within_of_tests c.lag (fin true 15 (pos 2)) (fin false 15 (pos 2)) 60 l.number (refl, refl) (refl, refl)
        (float_le_trans (fin true 15 (pos 2)) zero64 c.lag tt l.low) l.high

    go : (o : Option Float) → offset_ok o ≡ true → Within (add binary64 (unwrap_or (server_seconds_of o seconds) seconds) c.lag) (2 ^ 34)
    go None k = within_widen (add binary64 seconds c.lag) (2 ^ 32 + 60) (2 ^ 34) (lit≤ tt) (add_within seconds c.lag (2 ^ 32) 60 (lit< tt) w lag)
    go (Some x) k = within_widen (add binary64 (add binary64 seconds x) c.lag) (2 ^ 32 + 2 ^ 33 + 60) (2 ^ 34) (lit≤ tt)
        (add_within (add binary64 seconds x) c.lag (2 ^ 32 + 2 ^ 33) 60 (lit< tt)
        (add_within seconds x (2 ^ 32) (2 ^ 33) (lit< tt) w (sample_within x k)) lag)

-- ---- what arrives

receive_kept : (r : Received) (m : Reading) → Bounded m → Kept r.scene.worlds → Kept (receive_one r m).scene.worlds
receive_kept r (Ok (Command s h)) b k = received_kept r.scene (entry_of s h) (entry_plain s h b.0 b.1) k
receive_kept r (Ok (Snapshot s h)) b k = k
receive_kept r (Ok (Clock i s t)) b k = k
receive_kept r (Err e) b k = k

receive_weighed : (r : Received) (m : Reading) → Bounded m → Weighed r.scene.worlds → Weighed (receive_one r m).scene.worlds
receive_weighed r (Ok (Command s h)) b k = received_weighed r.scene (entry_of s h) k
receive_weighed r (Ok (Snapshot s h)) b k = k
receive_weighed r (Ok (Clock i s t)) b k = k
receive_weighed r (Err e) b k = k

note_kept : (w : ClientWorldSimulations) (m : Reading) → Bounded m → Kept w → Kept (note_one w m)
note_kept w (Ok (Command s h)) b k = k
note_kept w (Ok (Snapshot s h)) b k = noted_kept w s h b.1 k
note_kept w (Ok (Clock i s t)) b k = k
note_kept w (Err e) b k = k

note_weighed : (w : ClientWorldSimulations) (m : Reading) → Bounded m → Weighed w → Weighed (note_one w m)
note_weighed w (Ok (Command s h)) b k = k
note_weighed w (Ok (Snapshot s h)) b k = noted_weighed w s h k
note_weighed w (Ok (Clock i s t)) b k = k
note_weighed w (Err e) b k = k

-- the worlds after an inbox's commands and snapshots
pub scene_after_kept : (s : Session) (inbox : List ℕ) → Kept s.worlds → Kept (scene_after s inbox).worlds
unfolding received_in noted_in
scene_after_kept s inbox k =
    let ms = messages_of inbox in
    let b = messages_bounded inbox in
    let r : Received = unreceived s in
    over_keeps Kept note_one note_kept (over receive_one r ms).scene.worlds ms b
    (over_keeps (λ (x : Received). Kept x.scene.worlds) receive_one receive_kept r ms b k)

pub scene_after_weighed : (s : Session) (inbox : List ℕ) → Weighed s.worlds → Weighed (scene_after s inbox).worlds
unfolding received_in noted_in
scene_after_weighed s inbox k =
    let ms = messages_of inbox in
    let b = messages_bounded inbox in
    let r : Received = unreceived s in
    over_keeps Weighed note_one note_weighed (over receive_one r ms).scene.worlds ms b
    (over_keeps (λ (x : Received). Weighed x.scene.worlds) receive_one receive_weighed r ms b k)
