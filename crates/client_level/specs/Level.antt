-- A level frame: a frame that changes the stamps of both worlds, the weight and the published states alone, and an update of one such frame. No contract cites
-- this module; it holds what the laws of level frames are about. A level frame is a frame, of which Frame of client_frame is the definition. Definitions only.
-- Assumes nothing.
use Rattle.std.specs.Prelude.{ℕ, Bool, true, false, cond, not, ◌&&◌, List, [], ◌∷◌, ◌==◌, Float, Option, is_none}
use Rattle.std.specs.Float.{binary64}
use Rattle.std.specs.Float.Ieee.{add, lt}
use Rattle.timestamp.specs.declared.Timestamp.{Timestamp}
use Rattle.timestamp.specs.Floats.{zero64, clamped_of}
use Rattle.tape.specs.Words.{step_word}
use Rattle.settings.specs.declared.Settings.{Settings}
use Rattle.command.specs.Ranks.{waits_of}
use Rattle.simulation.specs.declared.Simulation.{Simulation}
use Rattle.simulation.specs.World.{next_stamp}
use Rattle.client.specs.declared.ReconciliationStatus.{ReconciliationStatus}
use Rattle.client.specs.declared.ReconciliationStatus.TheVariants.{AwaitingSnapshot, Fastforwarding, Blending}
use Rattle.client.specs.declared.QueuedSnapshot.{QueuedSnapshot}
use Rattle.client.specs.declared.ClientWorldSimulations.{ClientWorldSimulations}
use Rattle.client.specs.declared.Ledger.{Ledger}
use Rattle.client.specs.declared.Scene.{Scene}
use Rattle.client.specs.Sides.{new_side_of, old_side_of, world_stamp_of, with_world, with_ledger, with_worlds, with_steps}
use Rattle.client.specs.Status.{status_of}
use Rattle.fixed_timestepper.specs.TimeKeeper.{skips_of}

-- a world's buffer stays as it is at its next step
abbrev pub world_waits : Simulation → Bool
world_waits w = waits_of w.commands (next_stamp (world_stamp_of w))

-- a frame of this status, with q queued, leaves both worlds level: it blends, or it awaits and nothing is queued
abbrev pub level_by : ReconciliationStatus → Option QueuedSnapshot → Bool
level_by AwaitingSnapshot q = is_none q
level_by (Blending t) q = true
level_by (Fastforwarding h) q = false

-- a frame with m catch-up steps at most is level: it has one, its status leaves both worlds level, and both buffers wait
unfoldable pub is_level : ClientWorldSimulations → ℕ → Bool
is_level w m = not (m == 0) && (level_by (status_of w) w.snapshots.queued && (world_waits w.left && world_waits w.right))

-- the weight after a level frame of this status: the one it blends with moves on, any other stays
unfoldable pub level_weight : ReconciliationStatus → Float → Float → Float
level_weight AwaitingSnapshot weight progress = weight
level_weight (Blending t) weight progress = clamped_of (add binary64 t progress)
level_weight (Fastforwarding h) weight progress = weight

-- the words of a level frame's steps
unfoldable pub level_words : ClientWorldSimulations → List ℕ
level_words w = step_word (old_side_of w) ∷ step_word (new_side_of w) ∷ []

-- the scene with a world and its ledger at a side, and another count of steps
unfoldable pub put_back : Scene → ℕ → Simulation → Ledger → ℕ → Scene
put_back s side w l n = with_ledger (with_steps (with_worlds s (with_world s.worlds side w)) n) side l

-- an overshoot asks for one frame and no more
unfoldable pub is_single : Float → Float → Bool
is_single o timestep = cond (lt o zero64) (cond (lt (add binary64 o timestep) zero64) false true) false

-- an update of worlds with the stamp t, from the overshoot o, plays one level frame, and there is no skip after it
unfoldable pub level_run : ClientWorldSimulations → Timestamp → Float → Float → Settings → Bool
level_run w t o server c = cond (is_single o c.timestep) (cond (is_level w c.m)
    (not (skips_of (next_stamp t) (add binary64 o c.timestep) server c)) false) false
