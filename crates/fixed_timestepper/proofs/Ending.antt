-- What the skip comes to, over plain values. Assumes nothing.
use mathlib.Core.Path.{◌≡◌, refl, ap, sym, ◌∙◌}
use mathlib.Core.Bool.{Bool, true, false, cond}
use mathlib.Core.List.{List, []}
use Prim.Native.Nat.{ℕ}
use lib.Ieee.{Float}
use Rattle.timestamp.specs.declared.Timestamp.{Timestamp}
use Rattle.timestamp.specs.Timestamps.{bits_of}
use Rattle.timestamp.specs.FloatTimestamps.{from_seconds, float_difference_of, as_seconds, float_of, ceil_stamp_of}
use Rattle.tape.specs.declared.Tape.{Tape}
use Rattle.tape.specs.Tape.{Puts}
use Rattle.tape.proofs.Writing.{on_puts, puts_none, puts_as}
use Rattle.settings.specs.declared.Settings.{Settings}
use Rattle.client.specs.declared.Scene.{Scene}
use Rattle.client.specs.Sides.{old_stamp_of, and_then, Plays}
use Rattle.client_skip.specs.Skip.{skipped_of}
use Rattle.fixed_timestepper.specs.declared.Advanced.{Advanced}
use Rattle.fixed_timestepper.specs.TimeKeeper.{corrected_of, corrected_overshoot, Run, skips_of, skipped, maybe_skipped}
use Rattle.fixed_timestepper.specs.Inner.{run_by, Skips}

-- the test as it was told
pub skip_told : (stamp : Timestamp) (overshoot server : Float) (c : Settings) {old : Timestamp} {a b : Bool} → old ≡ stamp
    → a ≡ skips_of old overshoot server c → a ≡ b → skips_of stamp overshoot server c ≡ b
skip_told stamp overshoot server c ho ha hb = ap (λ (t : Timestamp). skips_of t overshoot server c) (sym ho) ∙ sym ha ∙ hb

-- an answer, by what the skip after the frames is
by_run : (s : Scene) (a : Advanced) (server : Float) (c : Settings) (q : Run) {was last : List ℕ} {u : Scene} {r : Advanced}
    → q ≡ maybe_skipped (run_by s a []) server c → u ≡ q.played.scene → r.overshoot ≡ q.overshoot → r.frames ≡ a.frames → r.stop ≡ q.stop
    → Puts was a.at q.played.words r.at last → Skips s a server c was u r last
by_run s a server c q e hs ho hf hp hw =
    record {
      scene = hs ∙ ap (λ (x : Run). x.played.scene) e;
      overshoot = ho ∙ ap (λ (x : Run). x.overshoot) e;
      frames = hf;
      stop = hp ∙ ap (λ (x : Run). x.stop) e;
      puts = puts_as (ap (λ (x : Run). x.played.words) e) hw;
    }

-- the run where there is a skip
is_skipped : (s : Scene) (a : Advanced) (server : Float) (c : Settings) → skips_of (old_stamp_of s.worlds) a.overshoot server c ≡ true
    → skipped (run_by s a []) server c ≡ maybe_skipped (run_by s a []) server c
unfolding maybe_skipped
is_skipped s a server c h = ap (λ (b : Bool). cond b (skipped (run_by s a []) server c) (run_by s a [])) (sym h)

-- and where there is none
not_skipped : (s : Scene) (a : Advanced) (server : Float) (c : Settings) → skips_of (old_stamp_of s.worlds) a.overshoot server c ≡ false
    → run_by s a [] ≡ maybe_skipped (run_by s a []) server c
unfolding maybe_skipped
not_skipped s a server c h = ap (λ (b : Bool). cond b (skipped (run_by s a []) server c) (run_by s a [])) (sym h)

-- a skip, by the calls that make it
pub skip_made : (s : Scene) (a : Advanced) (server : Float) (c : Settings) {was now : Tape} {target from difference overshoot : Float}
    {corrected : Timestamp} {u : Scene}
    → a.at ≡ was.at → skips_of (old_stamp_of s.worlds) a.overshoot server c ≡ true
    → target ≡ from_seconds server c.timestep → corrected.0 ≡ bits_of (ceil_stamp_of target) → from ≡ float_of corrected.0
    → difference ≡ float_difference_of from target → overshoot ≡ as_seconds difference c.timestep
    → Plays (skipped_of s corrected) was u now
    → Skips s a server c was.words.now u (record { overshoot = overshoot; frames = a.frames; at = now.at; stop = a.stop }) now.words.now
unfolding skipped and_then corrected_of corrected_overshoot
skip_made s a server c {was} {now} {target} {from} {difference} {overshoot} {corrected} hw h ht hc hf hd ho p =
    let e : corrected ≡ corrected_of server c.timestep = ap (λ (n : ℕ). record { 0 = n }) (hc ∙ ap (λ (x : Float). bits_of (ceil_stamp_of x)) ht) in
    by_run s a server c (skipped (run_by s a []) server c) (is_skipped s a server c h)
    (p.scene ∙ ap (λ (t : Timestamp). (skipped_of s t).scene) e)
    (ho ∙ ap (λ (x : Float). as_seconds x c.timestep) (hd ∙ (λ i. float_difference_of ((hf ∙ ap (λ (t : Timestamp). float_of t.0) e) i) (ht i))))
    refl
    refl
    (rw hw (puts_as (ap (λ (t : Timestamp). (skipped_of s t).words) e) (on_puts p.puts)))

-- no skip
pub skip_none : (s : Scene) (a : Advanced) (server : Float) (c : Settings) (was : List ℕ)
    → skips_of (old_stamp_of s.worlds) a.overshoot server c ≡ false → Skips s a server c was s a was
skip_none s a server c was h = by_run s a server c (run_by s a []) (not_skipped s a server c h) refl refl refl refl (puts_none was a.at)
