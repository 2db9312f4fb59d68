-- The stepping of the worlds by the clock: document 01, "src/fixed_timestepper.rs", with refusals 25 and 26. Every float operation is the Rust's, in its order.
-- Definitions only. Assumes nothing.
use Rattle.std.specs.Prelude.{ℕ, zero, suc, ◌+◌, Bool, true, false, cond, List, ◌++◌, ◌≡◌, negsuc, Float}
use Rattle.std.specs.Float.{fin, binary64}
use Rattle.std.specs.Float.Ieee.{add, sub, mul, lt, le}
use Rattle.timestamp.specs.declared.Timestamp.{Timestamp}
use Rattle.timestamp.specs.Timestamps.{bits_of}
use Rattle.timestamp.specs.FloatTimestamps.{from_seconds, float_difference_of, as_seconds, float_of, ceil_stamp_of}
use Rattle.tape.specs.Tape.{Puts}
use Rattle.settings.specs.declared.Settings.{Settings}
use Rattle.settings.specs.Settings.{blend_progress_of, lag_frame_count_of}
use Rattle.settings.specs.Tweening.{shaped_of}
use Rattle.client.specs.declared.ClientWorldSimulations.{ClientWorldSimulations}
use Rattle.client.specs.declared.Scene.{Scene}
use Rattle.client.specs.Sides.{old_stamp_of, with_worlds, Played, still, and_then}
use Rattle.client_frame.specs.declared.Rules.{Rules}
use Rattle.client_frame.specs.Frame.{frame_of, frame_stops}
use Rattle.client_skip.specs.Skip.{skipped_of}
use Rattle.client_publish.specs.Ending.{post_update_of}
use Rattle.timestamp.specs.Floats.{tween_of, zero64, abs_of}
use Rattle.refusals.specs.Limits.{most_frames}
use Rattle.refusals.specs.declared.Stop.{Stop}
use Rattle.refusals.specs.declared.Stop.TheVariants.{Done, TooManyFrames, StatusStops}
use Rattle.fixed_timestepper.specs.declared.Advanced.{Advanced}

-- a number, or +0.0 where it is not above 0
abbrev pub at_least_zero : Float → Float
at_least_zero x = cond (lt zero64 x) x zero64

-- the logical timestamp: the old stamp less the overshoot in frames
unfoldable pub logical_of : Timestamp → Float → Float → Float
logical_of stamp overshoot timestep = float_difference_of (float_of stamp.0) (from_seconds overshoot timestep)

-- the drift in seconds: the logical timestamp less the target, which is the server's time in frames
unfoldable pub drift_of : Timestamp → Float → Float → Float → Float
drift_of stamp overshoot timestep server = as_seconds (float_difference_of (logical_of stamp overshoot timestep) (from_seconds server timestep)) timestep

-- a drift below half a timestep is not compensated
abbrev pub beyond_deadband : Float → Float → Float
beyond_deadband drift timestep = cond (lt (abs_of drift) (mul binary64 timestep (fin false 1 (negsuc 0)))) zero64 drift

-- the delta less the drift before the update, not negative
unfoldable pub uncapped_of : Timestamp → Float → Float → Float → Float → Float
uncapped_of stamp overshoot delta server timestep = at_least_zero
    (sub binary64 delta (beyond_deadband (drift_of stamp overshoot timestep (sub binary64 server delta)) timestep))

-- the seconds that an update plays: capped by the maximum
unfoldable pub compensated_of : Timestamp → Float → Float → Float → Settings → Float
compensated_of stamp overshoot delta server s =
    cond (lt s.max (uncapped_of stamp overshoot delta server s.timestep)) s.max (uncapped_of stamp overshoot delta server s.timestep)

-- ---- the frames of an update

-- what every frame under these settings goes by
abbrev pub rules_of : Settings → Rules
rules_of c = record { m = c.m; progress = blend_progress_of c }

-- frames that were played: the scene and the words, the overshoot after them, how many they are, and why they ended
pub record Run : Type 0 where
  pub played : Played
  pub overshoot : Float
  pub frames : ℕ
  pub stop : Stop

-- no frame more
abbrev pub ended : Stop → Scene → Float → Run
ended stop s o = record { played = still s; overshoot = o; frames = 0; stop = stop }

-- a frame of the scene s, and then a run from the scene after it
unfoldable pub framed : Rules → Scene → Run → Run
framed rules s r =
    record {
      played = record { scene = r.played.scene; words = (frame_of rules s).words ++ r.played.words };
      overshoot = r.overshoot;
      frames = 1 + r.frames;
      stop = r.stop;
    }

-- a run goes on from a scene, where the frame did not stop it
abbrev pub goes_on : Bool → Scene → Float → Run → Run
goes_on true s o r = ended StatusStops s o
goes_on false s o r = r

-- a run while the overshoot is negative
abbrev pub while_below : Bool → Scene → Float → Run → Run
while_below true s o r = r
while_below false s o r = ended Done s o

-- frames while the overshoot is negative, with so many left before refusal 25: each adds the timestep, and a frame that the Rust stops in is the last
unfoldable pub run_of : ℕ → Settings → Scene → Float → Run
run_of zero c s o = while_below (lt o zero64) s o (ended TooManyFrames s o)
run_of (suc n) c s o =
    while_below (lt o zero64) s o
    (framed (rules_of c) s
    (goes_on (frame_stops (rules_of c) s) (frame_of (rules_of c) s).scene (add binary64 o c.timestep)
    (run_of n c (frame_of (rules_of c) s).scene (add binary64 o c.timestep))))

-- ---- the skip

-- the stamp that a skip sets: the server's time in frames, rounded up
unfoldable pub corrected_of : Float → Float → Timestamp
corrected_of server timestep = record { 0 = bits_of (ceil_stamp_of (from_seconds server timestep)) }

-- the overshoot after it: that stamp less the server's time in frames, in seconds
unfoldable pub corrected_overshoot : Float → Float → Float
corrected_overshoot server timestep = as_seconds (float_difference_of (float_of (corrected_of server timestep).0) (from_seconds server timestep)) timestep

-- there is a skip where the drift is at or beyond the threshold
unfoldable pub skips_of : Timestamp → Float → Float → Settings → Bool
skips_of stamp overshoot server c = le c.skip (abs_of (drift_of stamp overshoot c.timestep server))

-- a run, and then a skip to the server's time
unfoldable pub skipped : Run → Float → Settings → Run
skipped r server c =
    record {
      played = and_then r.played (λ s. skipped_of s (corrected_of server c.timestep));
      overshoot = corrected_overshoot server c.timestep;
      frames = r.frames;
      stop = r.stop;
    }

-- a run, and then a skip where there is one
unfoldable pub maybe_skipped : Run → Float → Settings → Run
maybe_skipped r server c = cond (skips_of (old_stamp_of r.played.scene.worlds) r.overshoot server c) (skipped r server c) r

-- a run that ended by itself goes on to the skip; one that was stopped does not
abbrev pub skipped_by : Stop → Run → Float → Settings → Run
skipped_by Done r server c = maybe_skipped r server c
skipped_by TooManyFrames r server c = r
skipped_by StatusStops r server c = r

-- the frames of an update from a scene and an overshoot, by the delta and the server's time
unfoldable pub advanced_of : Settings → Scene → Float → Float → Float → Run
advanced_of c s o delta server = run_of most_frames c s (sub binary64 o (compensated_of (old_stamp_of s.worlds) o delta server c))

-- the frames of an update and the skip after them
unfoldable pub unended_of : Settings → Scene → Float → Float → Float → Run
unended_of c s o delta server = skipped_by (advanced_of c s o delta server).stop (advanced_of c s o delta server) server c

-- ---- what every update ends with

-- the worlds that an update ends with: the tween weight is shaped, and the time to display is worked out with it
abbrev pub ended_of : Settings → ClientWorldSimulations → Float → ClientWorldSimulations
ended_of c w o = post_update_of w (shaped_of c.method (tween_of o c.timestep)) (bits_of (lag_frame_count_of c))

-- the run with other worlds
abbrev pub ends_with : Run → ClientWorldSimulations → Run
ends_with r w =
    record {
      played = record { scene = with_worlds r.played.scene w; words = r.played.words };
      overshoot = r.overshoot;
      frames = r.frames;
      stop = r.stop;
    }

-- a run with what an update ends with
abbrev pub finished_of : Settings → Run → Run
finished_of c r = ends_with r (ended_of c r.played.scene.worlds r.overshoot)

-- one update of the worlds; a run that was stopped is refused, whatever it ends with
unfoldable pub updated_of : Settings → Scene → Float → Float → Float → Run
updated_of c s o delta server = finished_of c (unended_of c s o delta server)

-- a run as the code leaves it, and the scene u after it: its words are on the tape from its start on
pub record Advances (r : Run) (was : List ℕ) (u : Scene) (a : Advanced) (last : List ℕ) : Type 0 where
  pub scene : u ≡ r.played.scene
  pub overshoot : a.overshoot ≡ r.overshoot
  pub frames : a.frames ≡ r.frames
  pub stop : a.stop ≡ r.stop
  pub puts : Puts was 0 r.played.words a.at last
