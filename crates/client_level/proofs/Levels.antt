-- An update that plays one level frame, over plain values. Assumes nothing.
use mathlib.Core.Path.{◌≡◌, refl, ap, sym, ◌∙◌}
use mathlib.Core.Bool.{Bool, true, false, cond, not, false≢true}
use mathlib.Core.List.{List, append-nil}
use Prim.Native.Nat.{ℕ}
use lib.Ieee.{Float, binary64, add, sub, lt}
use Rattle.timestamp.specs.declared.Timestamp.{Timestamp}
use Rattle.timestamp.specs.Floats.{zero64}
use Rattle.tape.specs.declared.Tape.{Tape}
use Rattle.tape.proofs.Writing.{on_puts, puts_as}
use Rattle.settings.specs.declared.Settings.{Settings}
use Rattle.simulation.specs.World.{next_stamp}
use Rattle.client.specs.declared.ClientWorldSimulations.{ClientWorldSimulations}
use Rattle.client.specs.declared.Scene.{Scene}
use Rattle.client.specs.Sides.{old_stamp_of, Plays}
use Rattle.refusals.specs.declared.Stop.TheVariants.{Done}
use Rattle.fixed_timestepper.specs.declared.Advanced.{Advanced}
use Rattle.fixed_timestepper.specs.TimeKeeper.{rules_of, Run, ended, framed, goes_on, run_of, compensated_of, skips_of, Advances, unended_of}
use Rattle.fixed_timestepper.specs.Inner.{Skips}
use Rattle.fixed_timestepper.proofs.Ending.{skip_none}
use Rattle.fixed_timestepper.proofs.Induction.{frame}
use Rattle.fixed_timestepper.proofs.Running.{goes_at, done_at_lem}
use Rattle.fixed_timestepper.proofs.Updating.{update_done}
use Rattle.client_level.specs.Level.{is_level, is_single, level_run}
use Rattle.client_level.proofs.Levelling.{level_stops, level_stamp}

-- ---- the tests

-- its parts
parts_by : (x y z : Bool) → cond x (cond y (not z) false) false ≡ true → (x ≡ true) × (y ≡ true) × (z ≡ false)
parts_by true true true h = absurd (false≢true h)
parts_by true true false h = (refl, refl, refl)
parts_by true false z h = absurd (false≢true h)
parts_by false y z h = absurd (false≢true h)

pub level_run_parts : (w : ClientWorldSimulations) (t : Timestamp) (o server : Float) (c : Settings) {b : Bool} → b ≡ level_run w t o server c → b ≡ true
    → (is_single o c.timestep ≡ true) × (is_level w c.m ≡ true) × (skips_of (next_stamp t) (add binary64 o c.timestep) server c ≡ false)
unfolding level_run
level_run_parts w t o server c hb e = parts_by (is_single o c.timestep) (is_level w c.m)
    (skips_of (next_stamp t) (add binary64 o c.timestep) server c) (sym hb ∙ e)

-- ---- the frame

single_by : (x y : Bool) → cond x (cond y false true) false ≡ true → (x ≡ true) × (y ≡ false)
single_by true true h = absurd (false≢true h)
single_by true false h = (refl, refl)
single_by false y h = absurd (false≢true h)

module _ (c : Settings) (s : Scene) (o : Float) (single : is_single o c.timestep ≡ true) (level : is_level s.worlds c.m ≡ true) where
  bounds : (lt o zero64 ≡ true) × (lt (add binary64 o c.timestep) zero64 ≡ false)
  unfolding is_single
  bounds = single_by (lt o zero64) (lt (add binary64 o c.timestep) zero64) single

  -- the run is the one frame
  single_run : run_of 65 c s o ≡ framed (rules_of c) s (ended Done (frame c s).scene (add binary64 o c.timestep))
  single_run =
      goes_at 64 c s o bounds.0
      ∙ (λ i. framed (rules_of c) s (goes_on (level_stops (rules_of c) s level i) (frame c s).scene (add binary64 o c.timestep)
      (done_at_lem 64 c (frame c s).scene (add binary64 o c.timestep) bounds.1 i)))

  -- the run as the code leaves it
  pub level_advances : {u : Scene} {x : Float} {was now : Tape} → was.at ≡ 0 → Plays (frame c s) was u now → x ≡ add binary64 o c.timestep
      → Advances (run_of 65 c s o) was.words.now u (record { overshoot = x; frames = 1; at = now.at; stop = Done }) now.words.now
  unfolding framed
  level_advances z h hx =
      record {
        scene = h.scene ∙ sym (ap (λ (r : Run). r.played.scene) single_run);
        overshoot = hx ∙ sym (ap (λ (r : Run). r.overshoot) single_run);
        frames = sym (ap (λ (r : Run). r.frames) single_run);
        stop = sym (ap (λ (r : Run). r.stop) single_run);
        puts = puts_as (sym (append-nil (frame c s).words) ∙ sym (ap (λ (r : Run). r.played.words) single_run)) (rw z at (on_puts h.puts));
      }

  -- it ended by itself
  pub level_done : {was last : List ℕ} {u : Scene} {a : Advanced} → Advances (run_of 65 c s o) was u a last → a.stop ≡ Done
  unfolding framed
  level_done h = h.stop ∙ ap (λ (r : Run). r.stop) single_run

  -- and there is no skip after it
  pub level_stays : {was last : List ℕ} {u : Scene} {a : Advanced} {t : Timestamp} {server : Float} → t ≡ old_stamp_of s.worlds
      → skips_of (next_stamp t) (add binary64 o c.timestep) server c ≡ false
      → Advances (run_of 65 c s o) was u a last → Skips u a server c last u a last
  unfolding framed
  level_stays {was} {last} {u} {a} {t} {server} ht hk h =
      let e : u ≡ (frame c s).scene = h.scene ∙ ap (λ (r : Run). r.played.scene) single_run in
      let x : a.overshoot ≡ add binary64 o c.timestep = h.overshoot ∙ ap (λ (r : Run). r.overshoot) single_run in
      let n : old_stamp_of u.worlds ≡ next_stamp t = ap (λ (y : Scene). old_stamp_of y.worlds) e
      ∙ (λ i. record { 0 = level_stamp (rules_of c) s level i }) ∙ ap next_stamp (sym ht) in
      skip_none u a server c last ((λ i. skips_of (n i) (x i) server c) ∙ hk)

-- ---- an update

module _ (c : Settings) (s : Scene) (o delta server : Float) {start d : Float} {stamp : Timestamp} (hs : stamp ≡ old_stamp_of s.worlds)
    (hd : d ≡ compensated_of stamp o delta server c) (ht : start ≡ sub binary64 o d) where
  -- one level frame, and no skip after it
  pub update_level : {u : Scene} {a : Advanced} {was last : List ℕ} → is_single start c.timestep ≡ true → is_level s.worlds c.m ≡ true
      → skips_of (next_stamp stamp) (add binary64 start c.timestep) server c ≡ false
      → Advances (run_of 65 c s start) was u a last → Advances (unended_of c s o delta server) was u a last
  update_level single level k h =
      update_done c s o delta server hs hd ht h (level_done c s start single level h) (level_stays c s start single level hs k h)
