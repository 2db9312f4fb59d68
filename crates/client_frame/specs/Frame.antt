-- One frame: document 01, "src/client.rs". What its status opens it with, a step of the old world, the catching up of the new one, what is published, and
-- refusal 26. Definitions only. Assumes nothing.
use Rattle.std.specs.Ordering.{is_ge}
use Rattle.std.specs.Prelude.{◌≡◌, ℕ, zero, suc, ◌+◌, ◌%◌, ◌^◌, Bool, true, false, cond, ◌==◌, nat_lt, Float, Option, Some, None, is_none}
use Rattle.std.specs.Float.{binary64}
use Rattle.std.specs.Float.Ieee.{add}
use Rattle.timestamp.specs.Floats.{clamped_of}
use Rattle.timestamp.specs.declared.Timestamp.{Timestamp}
use Rattle.timestamp.specs.Timestamps.{order_of, difference_of}
use Rattle.tape.specs.declared.Tape.{Tape}
use Rattle.tape.specs.Tape.{PutsOn}
use Rattle.simulation.specs.World.{step_of, reset_of}
use Rattle.client.specs.declared.FastforwardingHealth.TheVariants.{Healthy, Obsolete, Overshot}
use Rattle.client.specs.declared.ReconciliationStatus.{ReconciliationStatus}
use Rattle.client.specs.declared.ReconciliationStatus.TheVariants.{AwaitingSnapshot, Fastforwarding, Blending}
use Rattle.client.specs.declared.QueuedSnapshot.{QueuedSnapshot}
use Rattle.client.specs.declared.ClientWorldSimulations.{ClientWorldSimulations}
use Rattle.client.specs.declared.Scene.{Scene}
use Rattle.client.specs.Sides.{new_side_of, old_side_of, world_of, with_weight, with_worlds, old_stamp_of, new_stamp_of, Played, still}
use Rattle.client.specs.Sides.{and_then, done_at, with_steps}
use Rattle.client.specs.Status.{status_of}
use Rattle.client_publish.specs.Publish.{published_old, published_blended}
use Rattle.client_load.specs.Load.{loaded_of}
use Rattle.client_frame.specs.declared.Rules.{Rules}

-- the snapshot that a frame of this status loads
abbrev pub loads_of : ReconciliationStatus → Option QueuedSnapshot → Option QueuedSnapshot
loads_of AwaitingSnapshot q = q
loads_of (Blending t) q = None
loads_of (Fastforwarding Healthy) q = None
loads_of (Fastforwarding Obsolete) q = q
loads_of (Fastforwarding Overshot) q = None

-- the queued snapshot is loaded into a side, where there is one
unfoldable pub loaded_queued : Scene → Option QueuedSnapshot → ℕ → Played
loaded_queued s None side = still s
loaded_queued s (Some q) side = loaded_of s side q.stamp q.handle

-- the weight a frame on
unfoldable pub blended_on : Scene → Float → Scene
blended_on s progress = with_worlds s (with_weight s.worlds (clamped_of (add binary64 s.worlds.weight progress)))

-- the new world is reset to the old stamp
unfoldable pub reset_new : Scene → Played
reset_new s = done_at s (new_side_of s.worlds) (reset_of (world_of s.worlds (new_side_of s.worlds)) (old_stamp_of s.worlds) (new_side_of s.worlds))

-- what a frame begins with: Awaiting swaps the sides and loads, Obsolete loads, Overshot resets the new world, Blending moves the weight on
unfoldable pub opened_of : ReconciliationStatus → Option QueuedSnapshot → Float → Scene → Played
opened_of AwaitingSnapshot q p s = loaded_queued s q (old_side_of s.worlds)
opened_of (Blending t) q p s = still (blended_on s p)
opened_of (Fastforwarding Healthy) q p s = still s
opened_of (Fastforwarding Obsolete) q p s = loaded_queued s q (new_side_of s.worlds)
opened_of (Fastforwarding Overshot) q p s = reset_new s

-- the world of a side steps
unfoldable pub stepped_side : Scene → ℕ → Played
stepped_side s side = done_at s side (step_of (world_of s.worlds side) side)

-- the catch-up test: the new world, with the stamp n, has reached the stamp o
unfoldable pub caught_up_of : Timestamp → Timestamp → Bool
caught_up_of n o = is_ge (order_of n.0 o.0)

-- the scene with one more step of the new world counted
abbrev pub with_step : Scene → Scene
with_step s = with_steps s ((s.steps + 1) % 2 ^ 32)

-- the new world steps, and the step is counted
unfoldable pub stepped_new : Scene → Played
stepped_new s =
    record {
      scene = with_step (stepped_side s (new_side_of s.worlds)).scene;
      words = (stepped_side s (new_side_of s.worlds)).words;
    }

-- nothing more where the test holds
abbrev pub unless : Bool → Scene → Played → Played
unless true s p = still s
unless false s p = p

-- the new world steps until it has reached the stamp o, so many times at most
unfoldable pub caught_of : ℕ → Timestamp → Scene → Played
caught_of zero o s = still s
caught_of (suc n) o s = unless (caught_up_of (new_stamp_of s.worlds) o) s (and_then (stepped_new s) (caught_of n o))

-- the old world steps, and then the new one catches up with it, m steps at most
unfoldable pub simulated_of : ℕ → Scene → Played
simulated_of m s = and_then (stepped_side s (old_side_of s.worlds)) (λ t. caught_of m (old_stamp_of t.worlds) t)

-- a frame of this status that loads q publishes by the weight; any other publishes the old world
abbrev pub blended_by : ReconciliationStatus → Option QueuedSnapshot → Bool
blended_by AwaitingSnapshot q = is_none q
blended_by (Blending t) q = true
blended_by (Fastforwarding Healthy) q = false
blended_by (Fastforwarding Obsolete) q = false
blended_by (Fastforwarding Overshot) q = true

-- what is published
abbrev pub published_by : Bool → Scene → Played
published_by true s = published_blended s
published_by false s = published_old s

-- the worlds' steps and what is published
unfoldable pub shown_of : ℕ → Bool → Scene → Played
shown_of m b s = and_then (simulated_of m s) (published_by b)

-- a status is Fastforwarding with Obsolete
abbrev pub is_obsolete : ReconciliationStatus → Bool
is_obsolete AwaitingSnapshot = false
is_obsolete (Blending t) = false
is_obsolete (Fastforwarding Healthy) = false
is_obsolete (Fastforwarding Obsolete) = true
is_obsolete (Fastforwarding Overshot) = false

-- S - O is 2 or more, or -32,768: so (O - S) modulo 65,536 is from 32,768 to 65,534
unfoldable pub too_far_of : Option QueuedSnapshot → Timestamp → Bool
too_far_of None o = false
too_far_of (Some q) o = cond (nat_lt (difference_of o.0 q.stamp.0) 32768) false (nat_lt (difference_of o.0 q.stamp.0) 65535)

-- refusal 26, for a frame of this status that loads q and takes the worlds w to e: Healthy with N - O = -32,768, or that ends Obsolete; Obsolete that loads S
-- with S - O ≥ 2 or = -32,768
unfoldable pub stops_of : ReconciliationStatus → Option QueuedSnapshot → ClientWorldSimulations → ClientWorldSimulations → Bool
stops_of AwaitingSnapshot q w e = false
stops_of (Blending t) q w e = false
stops_of (Fastforwarding Healthy) q w e = cond (difference_of (old_stamp_of w).0 (new_stamp_of w).0 == 32768) true (is_obsolete (status_of e))
stops_of (Fastforwarding Obsolete) q w e = too_far_of q (old_stamp_of w)
stops_of (Fastforwarding Overshot) q w e = false

-- the snapshot that the next frame of a scene loads
unfoldable pub snapshot_of : Scene → Option QueuedSnapshot
snapshot_of s = loads_of (status_of s.worlds) s.worlds.snapshots.queued

-- a scene before its worlds step
unfoldable pub frame_opened : Rules → Scene → Played
frame_opened rules s = opened_of (status_of s.worlds) (snapshot_of s) rules.progress s

-- a frame, with so many catch-up steps at most and a progress of the weight as its rules say
unfoldable pub frame_of : Rules → Scene → Played
frame_of rules s = and_then (frame_opened rules s) (shown_of rules.m (blended_by (status_of s.worlds) (snapshot_of s)))

-- whether the Rust stops in the frame
unfoldable pub frame_stops : Rules → Scene → Bool
frame_stops rules s = stops_of (status_of s.worlds) (snapshot_of s) s.worlds (frame_of rules s).scene.worlds

-- a frame puts at most so many words: a load, or a reset with 64 commands, the words of what is published, and of 65 steps with 64 commands each
abbrev pub most_frame_words : ℕ
most_frame_words = 5000

-- a frame as the code leaves it, with the scene s
pub record Frames (p : Played) (stops : Bool) (was : Tape) (s : Scene) (at_stop : Bool) (now : Tape) : Type 0 where
  pub scene : s ≡ p.scene
  pub stopped : at_stop ≡ stops
  pub puts : PutsOn was p.words now
