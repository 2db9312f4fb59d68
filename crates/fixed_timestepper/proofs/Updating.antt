-- An update of the worlds, over plain values: the frames and the skip. Assumes nothing.
use mathlib.Core.Path.{◌≡◌, refl, ap, sym, ◌∙◌, subst}
use mathlib.Core.Bool.{Bool, true, false, cond}
use mathlib.Core.List.{List, [], ◌++◌, append-nil}
use Prim.Native.Nat.{ℕ}
use lib.Ieee.{Float, binary64, sub}
use Rattle.timestamp.specs.declared.Timestamp.{Timestamp}
use Rattle.tape.specs.Tape.{Puts}
use Rattle.tape.proofs.Writing.{puts_then, puts_as}
use Rattle.settings.specs.declared.Settings.{Settings}
use Rattle.client.specs.declared.Scene.{Scene}
use Rattle.client.specs.Sides.{old_stamp_of, and_then}
use Rattle.refusals.specs.declared.Stop.{Stop}
use Rattle.refusals.specs.declared.Stop.TheVariants.{Done}
use Rattle.fixed_timestepper.specs.declared.Advanced.{Advanced}
use Rattle.fixed_timestepper.specs.TimeKeeper.{Run, run_of, compensated_of, skips_of, skipped, maybe_skipped, advanced_of, Advances, skipped_by, unended_of}
use Rattle.fixed_timestepper.specs.Inner.{run_by, Skips}

-- ---- the skip turns on the scene and the overshoot of a run alone

-- a run that has the scene and the overshoot of an answer
module _ (s : Scene) (a : Advanced) (q : Run) (server : Float) (c : Settings) (hs : s ≡ q.played.scene) (ho : a.overshoot ≡ q.overshoot)
    (hf : a.frames ≡ q.frames) (hp : a.stop ≡ q.stop) where
  -- the same run, its scene and the rest written as the answer has them
  same : Run
  same = record { played = record { scene = s; words = q.played.words }; overshoot = a.overshoot; frames = a.frames; stop = a.stop }

  same_is : same ≡ q
  unfolding same
  same_is = λ i. record { played = record { scene = hs i; words = q.played.words }; overshoot = ho i; frames = hf i; stop = hp i }

  -- what the skip after it has in common with the skip after the answer
  common_by : (b : Bool) → ((cond b (skipped same server c) same).played.scene ≡ (cond b (skipped (run_by s a []) server c) (run_by s a [])).played.scene)
      × ((cond b (skipped same server c) same).overshoot ≡ (cond b (skipped (run_by s a []) server c) (run_by s a [])).overshoot)
      × ((cond b (skipped same server c) same).frames ≡ a.frames)
      × (q.played.words ++ (cond b (skipped (run_by s a []) server c) (run_by s a [])).played.words ≡ (cond b (skipped same server c) same).played.words)
  unfolding same skipped and_then
  common_by true = (refl, refl, refl, refl)
  common_by false = (refl, refl, refl, append-nil q.played.words)

  common : ((maybe_skipped same server c).played.scene ≡ (maybe_skipped (run_by s a []) server c).played.scene)
      × ((maybe_skipped same server c).overshoot ≡ (maybe_skipped (run_by s a []) server c).overshoot) × ((maybe_skipped same server c).frames ≡ a.frames)
      × (q.played.words ++ (maybe_skipped (run_by s a []) server c).played.words ≡ (maybe_skipped same server c).played.words)
  unfolding maybe_skipped same
  common = common_by (skips_of (old_stamp_of s.worlds) a.overshoot server c)

  stop_by : (b : Bool) → (cond b (skipped same server c) same).stop ≡ (cond b (skipped (run_by s a []) server c) (run_by s a [])).stop
  unfolding same skipped
  stop_by true = refl
  stop_by false = refl

  stop_is : (maybe_skipped same server c).stop ≡ (maybe_skipped (run_by s a []) server c).stop
  unfolding maybe_skipped same
  stop_is = stop_by (skips_of (old_stamp_of s.worlds) a.overshoot server c)

  -- the skip after the frames
  pub skips_well : {u : Scene} {k : Advanced} {was mid last : List ℕ} → Puts was 0 q.played.words a.at mid → Skips s a server c mid u k last
      → Advances (maybe_skipped q server c) was u k last
  skips_well {u} {k} {was} {mid} {last} hw h =
      let m : maybe_skipped same server c ≡ maybe_skipped q server c = ap (λ (y : Run). maybe_skipped y server c) same_is in
      record {
        scene = h.scene ∙ sym common.0 ∙ ap (λ (y : Run). y.played.scene) m;
        overshoot = h.overshoot ∙ sym common.1 ∙ ap (λ (y : Run). y.overshoot) m;
        frames = h.frames ∙ sym common.2 ∙ ap (λ (y : Run). y.frames) m;
        stop = h.stop ∙ sym stop_is ∙ ap (λ (y : Run). y.stop) m;
        puts = puts_as (common.3 ∙ ap (λ (y : Run). y.played.words) m) (puts_then hw h.puts);
      }

-- ---- an update

module _ (c : Settings) (s : Scene) (o delta server : Float) {start d : Float} {stamp : Timestamp} (hs : stamp ≡ old_stamp_of s.worlds)
    (hd : d ≡ compensated_of stamp o delta server c) (ht : start ≡ sub binary64 o d) where
  -- the run of the frames, as the code starts it
  starts : run_of 65 c s start ≡ advanced_of c s o delta server
  unfolding advanced_of
  starts = ap (run_of 65 c s) (ht ∙ ap (sub binary64 o) (hd ∙ ap (λ (t : Timestamp). compensated_of t o delta server c) hs))

  -- what comes after the frames, by why they ended
  update_by_lem : (x : Stop) {u : Scene} {r : Advanced} {was last : List ℕ} → (run_of 65 c s start).stop ≡ x
      → Advances (skipped_by x (run_of 65 c s start) server c) was u r last → Advances (unended_of c s o delta server) was u r last
  unfolding unended_of
  update_by_lem x {u} {r} {was} {last} e h =
      subst (λ (y : Run). Advances y was u r last) ((λ i. skipped_by (sym e i) (run_of 65 c s start) server c)
      ∙ ap (λ (q : Run). skipped_by q.stop q server c) starts) h

  -- the frames ended by themselves
  pub update_done : {v u : Scene} {a k : Advanced} {was mid last : List ℕ} → Advances (run_of 65 c s start) was v a mid → a.stop ≡ Done
      → Skips v a server c mid u k last → Advances (unended_of c s o delta server) was u k last
  update_done {v} {u} {a} h e hk = update_by_lem Done (sym h.stop ∙ e)
      (skips_well v a (run_of 65 c s start) server c h.scene h.overshoot h.frames h.stop h.puts hk)

  -- the frames were stopped
  pub update_stopped : {v : Scene} {a : Advanced} {was mid : List ℕ} (x : Stop) → Advances (run_of 65 c s start) was v a mid → a.stop ≡ x
      → ((r : Run) → skipped_by x r server c ≡ r) → Advances (unended_of c s o delta server) was v a mid
  update_stopped {v} {a} {was} {mid} x h e k =
      update_by_lem x (sym h.stop ∙ e) (subst (λ (y : Run). Advances y was v a mid) (sym (k (run_of 65 c s start))) h)

-- the same answer on the tape under another name
pub advances_on : {r : Run} {was mid last : List ℕ} {u : Scene} {a : Advanced} → last ≡ mid → Advances r was u a mid → Advances r was u a last
advances_on e h = record { scene = h.scene; overshoot = h.overshoot; frames = h.frames; stop = h.stop; puts = rw (sym e) at h.puts }
