-- What inner functions of the code give, of a run as they hold it, its words being on the tape already. No contract of a call cites this module.
-- Definitions only. Assumes nothing.
use Rattle.std.specs.Prelude.{ℕ, List, [], ◌≡◌, Float}
use Rattle.tape.specs.Tape.{Puts}
use Rattle.settings.specs.declared.Settings.{Settings}
use Rattle.client.specs.declared.Scene.{Scene}
use Rattle.fixed_timestepper.specs.declared.Advanced.{Advanced}
use Rattle.fixed_timestepper.specs.declared.TimeKeeper.{TimeKeeper}
use Rattle.fixed_timestepper.specs.TimeKeeper.{Run, maybe_skipped}

-- the run that the code's answer stands for, with that scene and those words
abbrev pub run_by : Scene → Advanced → List ℕ → Run
run_by s a ws = record { played = record { scene = s; words = ws }; overshoot = a.overshoot; frames = a.frames; stop = a.stop }

-- the same settings after a run
abbrev pub keeper_after : TimeKeeper → Advanced → TimeKeeper
keeper_after k a = record { settings = k.settings; overshoot = a.overshoot }

-- the skip after the frames of a run that left the scene s: the scene u after it, what it adds to the tape, and the answer after it
pub record Skips (s : Scene) (a : Advanced) (server : Float) (c : Settings) (was : List ℕ) (u : Scene) (r : Advanced) (last : List ℕ) : Type 0 where
  pub scene : u ≡ (maybe_skipped (run_by s a []) server c).played.scene
  pub overshoot : r.overshoot ≡ (maybe_skipped (run_by s a []) server c).overshoot
  pub frames : r.frames ≡ a.frames
  pub stop : r.stop ≡ (maybe_skipped (run_by s a []) server c).stop
  pub puts : Puts was a.at (maybe_skipped (run_by s a []) server c).played.words r.at last
