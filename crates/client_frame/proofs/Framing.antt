-- What the code of a frame comes to, over plain values: one rule for each return. Assumes nothing.
use Rattle.std.proofs.Common.{length, ◌≡◌, ℕ, ◌≤◌, Bool, true, false, refl, ap, ◌∙◌}
use Rattle.std.specs.Prelude.{Option}
use Rattle.timestamp.specs.declared.Timestamp.{Timestamp}
use Rattle.tape.specs.declared.Tape.{Tape}
use Rattle.simulation.specs.World.{step_of}
use Rattle.client.specs.declared.FastforwardingHealth.TheVariants.{Healthy, Obsolete, Overshot}
use Rattle.client.specs.declared.ReconciliationStatus.{ReconciliationStatus}
use Rattle.client.specs.declared.ReconciliationStatus.TheVariants.{AwaitingSnapshot, Fastforwarding, Blending}
use Rattle.client.specs.declared.QueuedSnapshot.{QueuedSnapshot}
use Rattle.client.specs.declared.ClientWorldSimulations.{ClientWorldSimulations}
use Rattle.client.specs.declared.Scene.{Scene}
use Rattle.client.specs.Sides.{new_side_of, world_of, old_stamp_of, new_stamp_of}
use Rattle.client.specs.Sides.{Played, done_at, Plays}
use Rattle.client.specs.Status.{status_of}
use Rattle.client_publish.specs.Publish.{with_state}
use Rattle.client_publish.specs.Inner.{States}
use Rattle.client_frame.specs.declared.Rules.{Rules}
use Rattle.client_frame.specs.declared.FrameStart.{FrameStart}
use Rattle.client_frame.specs.Frame.{opened_of, stepped_side}
use Rattle.client_frame.specs.Frame.{with_step, stepped_new, blended_by, published_by, shown_of, stops_of}
use Rattle.client_frame.specs.Frame.{snapshot_of, frame_opened, frame_of, frame_stops, Frames}
use Rattle.client_frame.specs.Inner.{start_of, stops_by}
use Rattle.client_publish.proofs.Telling.{told_few, old_by, blended_by_lem}
use Rattle.client.proofs.Happening.{plays_as, plays_then}

-- ---- the worlds' steps

-- the new world steps, and the step is counted
pub step_new_plays : (s : Scene) {side : ℕ} {was now : Tape} {u : Scene}
    → side ≡ new_side_of s.worlds → Plays (done_at s side (step_of (world_of s.worlds side) side)) was u now
    → Plays (stepped_new s) was (with_step u) now
unfolding stepped_new stepped_side
step_new_plays s hs h =
    let k : Plays (stepped_side s (new_side_of s.worlds)) _ _ _ = plays_as (λ i. done_at s (hs i) (step_of (world_of s.worlds (hs i)) (hs i))) h in
    record { scene = ap with_step k.scene; puts = k.puts }

-- ---- what is published

-- the scene with the state
pub stated_plays : {p : Played} (s : Scene) {was now : Tape} {r : Option Timestamp} {u : Scene} → States p s was r now
    → u ≡ with_state s r → Plays p was u now
stated_plays s h e = record { scene = e ∙ h.scene; puts = h.puts }

-- what is published is told in at most four words
pub publishes_few : (b : Bool) (s : Scene) → length (published_by b s).words ≤ 4
publishes_few true s = blended_by_lem (λ p. length p.words ≤ 4) s (λ l w. told_few w)
publishes_few false s = old_by (λ p. length p.words ≤ 4) s (λ l w. told_few w)

-- ---- refusal 26

-- by the worlds before the frame
pub stops_is : (t : ReconciliationStatus) (q : Option QueuedSnapshot) (w e : ClientWorldSimulations) → stops_by t q (old_stamp_of w) (new_stamp_of w) e
    ≡ stops_of t q w e
unfolding stops_of stops_by
stops_is AwaitingSnapshot q w e = refl
stops_is (Blending t) q w e = refl
stops_is (Fastforwarding Healthy) q w e = refl
stops_is (Fastforwarding Obsolete) q w e = refl
stops_is (Fastforwarding Overshot) q w e = refl

-- ---- the frame

-- one frame: what it begins with, its beginning, its steps and what it publishes, and whether it stops
pub frame_plays : (rules : Rules) (s : Scene) {x : FrameStart} {stop : Bool} {was mid now : Tape} {a u : Scene} → x ≡ start_of s.worlds
    → Plays (opened_of x.status x.loads rules.progress s) was a mid
    → Plays (shown_of rules.m (blended_by x.status x.loads) a) mid u now
    → stop ≡ stops_by x.status x.loads x.old x.new u.worlds → Frames (frame_of rules s) (frame_stops rules s) was u stop now
unfolding start_of frame_of frame_stops frame_opened snapshot_of
frame_plays rules s {x} {stop} {was} {mid} {now} {a} {u} hx ha hr hs =
    let opens = plays_as (λ i. opened_of (hx i).status (hx i).loads rules.progress s) ha in
    let shows = plays_as (λ i. shown_of rules.m (blended_by (hx i).status (hx i).loads) a) hr in
    let plays = plays_then _ opens shows in
    record {
      scene = plays.scene;
      stopped = hs ∙ (λ i. stops_by (hx i).status (hx i).loads (hx i).old (hx i).new (plays.scene i).worlds)
          ∙ stops_is (status_of s.worlds) (snapshot_of s) s.worlds _;
      puts = plays.puts;
    }
