-- The loop that plays frames, over plain values: what is left to play from here gives what the whole gives. Assumes nothing.
use mathlib.Core.Path.{◌≡◌, refl, ap, sym, ◌∙◌, subst}
use mathlib.Core.Bool.{Bool, true, false}
use mathlib.Core.List.{List}
use Prim.Native.Nat.{ℕ, zero, suc, ◌+◌, ◌-◌, ◌*◌, ◌≤◌, ◌<◌}
use native.Mathlib.Omega.{arith}
use lib.Ieee.{Float, binary64, add, lt}
use Rattle.tape.specs.declared.Tape.{Tape}
use Rattle.tape.specs.Tape.{Puts}
use Rattle.tape.proofs.Writing.{on_puts, puts_none, puts_then, puts_as}
use Rattle.settings.specs.declared.Settings.{Settings}
use Rattle.client.specs.declared.Scene.{Scene}
use Rattle.client_frame.specs.declared.Rules.{Rules}
use Rattle.client_frame.specs.Frame.{frame_of, frame_stops, Frames}
use Rattle.refusals.specs.declared.Stop.{Stop}
use Rattle.refusals.specs.declared.Stop.TheVariants.{Done, TooManyFrames, StatusStops}
use Rattle.fixed_timestepper.specs.TimeKeeper.{rules_of, Run, ended, framed, goes_on, while_below, run_of, Advances}
use Rattle.timestamp.specs.Floats.{zero64}
use Rattle.fixed_timestepper.proofs.Induction.{frame}

-- n frames were played from the scene `from`; a run is left, from the scene s and the next place of the tape on
pub record Running (c : Settings) (from : Scene) (start : Float) (was tape : Tape) (s : Scene) (o : Float) (n : ℕ) : Type 0 where
  pub bound : n ≤ 65
  pub at : tape.at ≤ n * 5000
  pub lent : tape.words.ghost_name ≡ was.words.ghost_name
  pub scene : (run_of (65 - n) c s o).played.scene ≡ (run_of 65 c from start).played.scene
  pub overshoot : (run_of (65 - n) c s o).overshoot ≡ (run_of 65 c from start).overshoot
  pub stop : (run_of (65 - n) c s o).stop ≡ (run_of 65 c from start).stop
  pub frames : n + (run_of (65 - n) c s o).frames ≡ (run_of 65 c from start).frames
  pub puts : (q : ℕ) (last : List ℕ) → Puts tape.words.now tape.at (run_of (65 - n) c s o).played.words q last
      → Puts was.words.now 0 (run_of 65 c from start).played.words q last

-- the run is over: q is what is left, and it puts nothing more
over_with : (c : Settings) (from : Scene) (start : Float) {was tape : Tape} {s : Scene} {o : Float} {n : ℕ} (x : Stop)
    → Running c from start was tape s o n → run_of (65 - n) c s o ≡ ended x s o
    → Advances (run_of 65 c from start) was.words.now s (record { overshoot = o; frames = n; at = tape.at; stop = x }) tape.words.now
over_with c from start {was} {tape} {s} {o} {n} x r e =
    record {
      scene = sym (ap (λ (y : Run). y.played.scene) e) ∙ r.scene;
      overshoot = sym (ap (λ (y : Run). y.overshoot) e) ∙ r.overshoot;
      frames = omega (arith, ap (λ (y : Run). y.frames) e, r.frames);
      stop = sym (ap (λ (y : Run). y.stop) e) ∙ r.stop;
      puts = r.puts tape.at tape.words.now (puts_as (sym (ap (λ (y : Run). y.played.words) e)) (puts_none tape.words.now tape.at));
    }

-- a frame, and then the run from the scene after it
abbrev onward : ℕ → Settings → Scene → Float → Run
onward k c s o = framed (rules_of c) s (goes_on (frame_stops (rules_of c) s) (frame c s).scene (add binary64 o c.timestep)
    (run_of k c (frame c s).scene (add binary64 o c.timestep)))

-- the overshoot is not negative
pub done_at_lem : (k : ℕ) (c : Settings) (s : Scene) (o : Float) → lt o zero64 ≡ false → run_of k c s o ≡ ended Done s o
unfolding run_of
done_at_lem zero c s o h = ap (λ (b : Bool). while_below b s o (ended TooManyFrames s o)) h
done_at_lem (suc k) c s o h = ap (λ (b : Bool). while_below b s o (onward k c s o)) h

pub running_done : (c : Settings) (from : Scene) (start : Float) {was tape : Tape} {s : Scene} {o : Float} {n : ℕ}
    → Running c from start was tape s o n → lt o zero64 ≡ false
    → Advances (run_of 65 c from start) was.words.now s (record { overshoot = o; frames = n; at = tape.at; stop = Done }) tape.words.now
running_done c from start {was} {tape} {s} {o} {n} r h = over_with c from start Done r (done_at_lem (65 - n) c s o h)

-- a 66th frame
full_at : (c : Settings) (s : Scene) (o : Float) → lt o zero64 ≡ true → run_of zero c s o ≡ ended TooManyFrames s o
unfolding run_of
full_at c s o h = ap (λ (b : Bool). while_below b s o (ended TooManyFrames s o)) h

pub running_full : (c : Settings) (from : Scene) (start : Float) {was tape : Tape} {s : Scene} {o : Float} {n : ℕ}
    → Running c from start was tape s o n → lt o zero64 ≡ true → n ≡ 65
    → Advances (run_of 65 c from start) was.words.now s (record { overshoot = o; frames = n; at = tape.at; stop = TooManyFrames }) tape.words.now
running_full c from start {was} {tape} {s} {o} {n} r h e =
    let z : 65 - n ≡ 0 = omega arith in
    over_with c from start TooManyFrames r (ap (λ (k : ℕ). run_of k c s o) z ∙ full_at c s o h)

pub full_whole : (c : Settings) (from : Scene) (start : Float) {was tape : Tape} {s : Scene} {o : Float} {n : ℕ}
    → Running c from start was tape s o n → lt o zero64 ≡ true → n ≡ 65
    → Advances (run_of 65 c from start) was.words.now s (record { overshoot = o; frames = 65; at = tape.at; stop = TooManyFrames }) tape.words.now
full_whole c from start {was} {tape} {s} {o} {n} r h e =
    subst
    (λ (k : ℕ). Advances (run_of 65 c from start) was.words.now s (record { overshoot = o; frames = k; at = tape.at; stop = TooManyFrames }) tape.words.now)
    e
    (running_full c from start r h e)

pub done_whole : (c : Settings) (from : Scene) (start : Float) {was tape : Tape} {s : Scene} {o : Float} {n : ℕ}
    → Running c from start was tape s o n → lt o zero64 ≡ false → n ≡ 65
    → Advances (run_of 65 c from start) was.words.now s (record { overshoot = o; frames = 65; at = tape.at; stop = Done }) tape.words.now
done_whole c from start {was} {tape} {s} {o} {n} r h e =
    subst (λ (k : ℕ). Advances (run_of 65 c from start) was.words.now s (record { overshoot = o; frames = k; at = tape.at; stop = Done }) tape.words.now) e
    (running_done c from start r h)

-- ---- one frame more

-- a run with a frame in front
pub goes_at : (k : ℕ) (c : Settings) (s : Scene) (o : Float) → lt o zero64 ≡ true
    → run_of (suc k) c s o ≡ onward k c s o
unfolding run_of
goes_at k c s o h = ap (λ (b : Bool). while_below b s o (onward k c s o)) h

module _ (c : Settings) (from : Scene) (start : Float) {was tape mid : Tape} {s u : Scene} {o : Float} {n : ℕ} {f : Bool}
    (r : Running c from start was tape s o n) (below : lt o zero64 ≡ true) (few : n < 65)
    (h : Frames (frame c s) (frame_stops (rules_of c) s) tape u f mid) (near : mid.at ≤ tape.at + 5000) where
  -- what is left after the frame
  after : Bool → Run
  after b = goes_on b (frame c s).scene (add binary64 o c.timestep) (run_of (65 - (n + 1)) c (frame c s).scene (add binary64 o c.timestep))

  left_is : run_of (65 - n) c s o ≡ framed (rules_of c) s (after (frame_stops (rules_of c) s))
  unfolding after
  left_is =
      let e : 65 - n ≡ suc (65 - (n + 1)) = omega arith in
      ap (λ (k : ℕ). run_of k c s o) e ∙ goes_at (65 - (n + 1)) c s o below

  -- after the frame the place is within its bound
  place : mid.at ≤ (n + 1) * 5000
  place = omega (arith, near, r.at)

  -- the frame, and then a run q, in place of what was left
  joined : (q : Run) → run_of (65 - n) c s o ≡ framed (rules_of c) s q
      → (q.played.scene ≡ (run_of 65 c from start).played.scene) × (q.overshoot ≡ (run_of 65 c from start).overshoot)
      × (q.stop ≡ (run_of 65 c from start).stop) × (n + 1 + q.frames ≡ (run_of 65 c from start).frames)
      × ((z : ℕ) (last : List ℕ) → Puts mid.words.now mid.at q.played.words z last → Puts was.words.now 0 (run_of 65 c from start).played.words z last)
  unfolding framed
  joined q e = (
    sym (ap (λ (y : Run). y.played.scene) e) ∙ r.scene,
    sym (ap (λ (y : Run). y.overshoot) e) ∙ r.overshoot,
    sym (ap (λ (y : Run). y.stop) e) ∙ r.stop,
    omega (arith, ap (λ (y : Run). y.frames) e, r.frames),
    λ z last k. r.puts z last (puts_as (sym (ap (λ (y : Run). y.played.words) e)) (puts_then (on_puts h.puts) k)),
  )

  -- a frame that the Rust stops in
  pub running_stops : {x : Float} → f ≡ true → x ≡ add binary64 o c.timestep
      → Advances (run_of 65 c from start) was.words.now u (record { overshoot = x; frames = n + 1; at = mid.at; stop = StatusStops }) mid.words.now
  unfolding after
  running_stops hs hx =
      let j = joined (ended StatusStops (frame c s).scene (add binary64 o c.timestep))
      (left_is ∙ ap (λ (b : Bool). framed (rules_of c) s (after b)) (sym h.stopped ∙ hs)) in
      record {
        scene = h.scene ∙ j.0;
        overshoot = hx ∙ j.1;
        frames = omega (arith, j.3);
        stop = j.2;
        puts = j.4 mid.at mid.words.now (puts_none mid.words.now mid.at);
      }

  -- a frame after which the run goes on
  pub running_on : {x : Float} → f ≡ false → x ≡ add binary64 o c.timestep → Running c from start was mid u x (n + 1)
  unfolding after
  running_on {x} hs hx =
      let q = run_of (65 - (n + 1)) c (frame c s).scene (add binary64 o c.timestep) in
      let j = joined q (left_is ∙ ap (λ (b : Bool). framed (rules_of c) s (after b)) (sym h.stopped ∙ hs)) in
      let e : run_of (65 - (n + 1)) c u x ≡ q = λ i. run_of (65 - (n + 1)) c (h.scene i) (hx i) in
      record {
        bound = omega arith;
        at = place;
        lent = h.puts.lent ∙ r.lent;
        scene = ap (λ (y : Run). y.played.scene) e ∙ j.0;
        overshoot = ap (λ (y : Run). y.overshoot) e ∙ j.1;
        stop = ap (λ (y : Run). y.stop) e ∙ j.2;
        frames = omega (arith, ap (λ (y : Run). y.frames) e, j.3);
        puts = λ z last k. j.4 z last (puts_as (ap (λ (y : Run). y.played.words) e) k);
      }

-- a frame by the rules that the settings give
pub framed_as : (c : Settings) (s : Scene) {rules : Rules} {was now : Tape} {u : Scene} {f : Bool} → rules ≡ rules_of c
    → Frames (frame_of rules s) (frame_stops rules s) was u f now → Frames (frame c s) (frame_stops (rules_of c) s) was u f now
framed_as c s {rules} {was} {now} {u} {f} e h = subst (λ (r : Rules). Frames (frame_of r s) (frame_stops r s) was u f now) e h
