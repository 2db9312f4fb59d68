-- What happens to the worlds in an update, by what it was handed and by the verdict on it: document 01, "src/fixed_timestepper.rs". No frame and no skip is in
-- it but those of the definition. Definitions only. Assumes nothing.
use Rattle.std.specs.Prelude.{ℕ, zero, suc, cond, List, [], ◌∷◌, ◌++◌, Float, Ok, Err}
use Rattle.std.specs.Float.{binary64}
use Rattle.std.specs.Float.Ieee.{add, sub, lt}
use Rattle.refusals.specs.Limits.{most_frames}
use Rattle.refusals.specs.Refusals.{Verdict}
use Rattle.timestamp.specs.declared.Timestamp.{Timestamp}
use Rattle.settings.specs.declared.Settings.{Settings}
use Rattle.client.specs.declared.Scene.{Scene}
use Rattle.client.specs.Sides.{old_stamp_of}
use Rattle.client_frame.specs.declared.Rules.{Rules}
use Rattle.client_frame.specs.Frame.{frame_of}
use Rattle.fixed_timestepper.specs.TimeKeeper.{rules_of, compensated_of, corrected_of, skips_of}
use Rattle.timestamp.specs.Floats.{zero64}
use Rattle.session_state.specs.declared.Session.{Session}
use Rattle.session.specs.Calls.{lagged_of, clock_after, scene_after}

-- what happens to worlds, in its order: a frame by its rules of the scene before it, or a skip from the scene before it to a stamp
pub data Event : Type 0 where
  FrameFrom : (rules : Rules) (before : Scene) → Event
  SkipFrom : (before : Scene) (stamp : Timestamp) → Event

-- how many frames bring an overshoot to 0 or above, each adding the timestep: so many at most
abbrev pub frames_for : ℕ → Float → Float → ℕ
frames_for zero t o = 0
frames_for (suc n) t o = cond (lt o zero64) (suc (frames_for n t (add binary64 o t))) 0

-- so many frames, each from the scene that the one before it leaves
abbrev pub frames_played : ℕ → Rules → Scene → List Event
frames_played zero r s = []
frames_played (suc n) r s = FrameFrom r s ∷ frames_played n r (frame_of r s).scene

-- the scene that they leave
abbrev pub scene_at : ℕ → Rules → Scene → Scene
scene_at zero r s = s
scene_at (suc n) r s = scene_at n r (frame_of r s).scene

-- the overshoot that they leave: each adds the timestep
abbrev pub overshoot_at : ℕ → Float → Float → Float
overshoot_at zero t o = o
overshoot_at (suc n) t o = overshoot_at n t (add binary64 o t)

-- after the frames, from the scene s and the overshoot o: one skip to the stamp that the server's time gives, where the definition skips, and else nothing
abbrev pub skip_after : Settings → Float → Scene → Float → List Event
skip_after c server s o = cond (skips_of (old_stamp_of s.worlds) o server c) (SkipFrom s (corrected_of server c.timestep) ∷ []) []

-- so many frames from the scene s and the overshoot o, and what is after them
abbrev pub plays_from : Settings → Float → Scene → Float → ℕ → List Event
plays_from c server s o f = frames_played f (rules_of c) s ++ skip_after c server (scene_at f (rules_of c) s) (overshoot_at f c.timestep o)

-- the server's time that an update goes by: with the lag, by the clock once the inbox is heard
abbrev pub server_at : Session → Float → Float → List ℕ → Float
server_at s delta seconds inbox = lagged_of s (clock_after s delta seconds inbox) seconds

-- the overshoot that its frames start from
abbrev pub start_at : Session → Float → Float → List ℕ → Float
start_at s delta seconds inbox =
    sub binary64 s.overshoot (compensated_of (old_stamp_of (scene_after s inbox).worlds) s.overshoot delta (server_at s delta seconds inbox) s.settings)

-- the frames of an update, from the scene once its inbox is read, and what is after them
abbrev pub played_in : Session → Float → Float → List ℕ → List Event
played_in s delta seconds inbox =
    plays_from s.settings (server_at s delta seconds inbox) (scene_after s inbox) (start_at s delta seconds inbox)
    (frames_for most_frames s.settings.timestep (start_at s delta seconds inbox))

-- an update of a session whose worlds exist, which was judged so: nothing where it was refused
unfoldable pub events_of : Session → Float → Float → List ℕ → Verdict → List Event
events_of s delta seconds inbox (Ok x) = played_in s delta seconds inbox
events_of s delta seconds inbox (Err e) = []
