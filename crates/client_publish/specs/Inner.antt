-- What a function that publishes gives: a state, and words on the tape. No contract of a call cites this module.
-- Definitions only. Assumes nothing.
use Rattle.std.specs.Prelude.{◌≡◌, Option}
use Rattle.timestamp.specs.declared.Timestamp.{Timestamp}
use Rattle.tape.specs.declared.Tape.{Tape}
use Rattle.tape.specs.Tape.{PutsOn}
use Rattle.client.specs.declared.Scene.{Scene}
use Rattle.client.specs.Sides.{Played}
use Rattle.client_publish.specs.Publish.{with_state}

-- the state that is published from a scene, as the code leaves it: with it the scene is what happened
pub record States (p : Played) (s : Scene) (was : Tape) (state : Option Timestamp) (now : Tape) : Type 0 where
  pub scene : with_state s state ≡ p.scene
  pub puts : PutsOn was p.words now
