-- The numbers of a scene, a frame done to a scene as it was decided, and what a right decision is: it is done as `frame_of` says, with the numbers and the
-- stop that the scene then has. The statements, that Numbers decides rightly for every scene, stand last: proofs/Deciding proves `FrameDecided` and
-- proofs/Reading `SkipDecided`, each under the same name in small letters. Definitions only. Assumes nothing.
use Rattle.std.specs.Prelude.{◌≡◌, ℕ, zero, suc}
use Rattle.timestamp.specs.declared.Timestamp.{Timestamp}
use Rattle.client.specs.declared.Scene.{Scene}
use Rattle.client_skip.specs.Skip.{skipped_of}
use Rattle.client.specs.Sides.{new_side_of, old_side_of, world_of, with_weight, with_worlds, old_stamp_of, new_stamp_of, Played, still, and_then}
use Rattle.client_publish.specs.Publish.{published_none, published_side, published_mix}
use Rattle.client_load.specs.Load.{loaded_of}
use Rattle.client_frame.specs.declared.Rules.{Rules}
use Rattle.client_frame.specs.Frame.{reset_new, stepped_side, stepped_new, frame_of, frame_stops}
use Rattle.client_numbers.specs.Numbers.{Numbers, Opens, Unchanged, Weight, LoadOld, LoadNew, Reset, Shows, NoWorld, OldWorld, NewWorld, Mix, Frame}
use Rattle.client_numbers.specs.Numbers.{decided_of, skipped_numbers}

-- the numbers of a scene
unfoldable pub numbers_of : Scene → Numbers
numbers_of s =
    record {
      old = old_stamp_of s.worlds;
      new = new_stamp_of s.worlds;
      oldinit = (world_of s.worlds (old_side_of s.worlds)).init;
      newinit = (world_of s.worlds (new_side_of s.worlds)).init;
      side = s.worlds.new;
      queued = s.worlds.snapshots.queued;
      weight = s.worlds.weight;
      before = s.worlds.published.before;
      after = s.worlds.published.after;
      steps = s.steps;
    }

-- what a frame opens with, done to a scene
unfoldable pub done_opening : Opens → Scene → Played
done_opening Unchanged s = still s
done_opening (Weight t) s = still (with_worlds s (with_weight s.worlds t))
done_opening (LoadOld q) s = loaded_of s (old_side_of s.worlds) q.stamp q.handle
done_opening (LoadNew q) s = loaded_of s (new_side_of s.worlds) q.stamp q.handle
done_opening Reset s = reset_new s

-- k steps of the new world
unfoldable pub steps_new : ℕ → Scene → Played
steps_new zero s = still s
steps_new (suc k) s = and_then (stepped_new s) (steps_new k)

-- a step of the old world, and then k of the new one
unfoldable pub done_steps : ℕ → Scene → Played
done_steps k s = and_then (stepped_side s (old_side_of s.worlds)) (steps_new k)

-- what a frame publishes, done to a scene
unfoldable pub done_showing : Shows → Scene → Played
done_showing NoWorld s = published_none s
done_showing OldWorld s = published_side s (old_side_of s.worlds)
done_showing NewWorld s = published_side s (new_side_of s.worlds)
done_showing (Mix t) s = published_mix s t

-- a frame done to a scene as it was decided
unfoldable pub done_by : Frame → Scene → Played
done_by f s = and_then (done_opening f.opens s) (λ t. and_then (done_steps f.steps t) (done_showing f.shows))

-- a frame is decided rightly for a scene: done as decided it is the scene's frame, and its numbers and its stop are those that the scene then has
pub record Decides (rules : Rules) (s : Scene) (f : Frame) : Type 0 where
  pub done : done_by f s ≡ frame_of rules s
  pub next : f.next ≡ numbers_of (frame_of rules s).scene
  pub stops : f.stops ≡ frame_stops rules s

-- a frame is decided from the numbers n, and rightly for every scene that has these numbers
pub record DecidesAll (rules : Rules) (n : Numbers) (f : Frame) : Type 0 where
  pub decided : f ≡ decided_of rules n
  pub decides : (s : Scene) → numbers_of s ≡ n → Decides rules s f

-- the numbers r are those of every scene with the numbers n after a skip to the stamp t
pub record SkipsAll (n : Numbers) (t : Timestamp) (r : Numbers) : Type 0 where
  pub skipped : r ≡ skipped_numbers n t
  pub skips : (s : Scene) → numbers_of s ≡ n → r ≡ numbers_of (skipped_of s t).scene

-- a frame is decided rightly from any numbers
unfoldable pub FrameDecided : Type 0
FrameDecided = (rules : Rules) (n : Numbers) → DecidesAll rules n (decided_of rules n)

-- and so is a skip to any stamp
unfoldable pub SkipDecided : Type 0
SkipDecided = (n : Numbers) (t : Timestamp) → SkipsAll n t (skipped_numbers n t)
