-- What the code gives of a run as it holds it, its words being on the tape already. No contract of a call cites this module: `worlds_accepted` of
-- session's proofs/Answering ties it to Answers. Definitions only. Assumes nothing.
use Rattle.std.specs.Prelude.{ℕ, Bool, List}
use Rattle.refusals.specs.Refusals.{accepted}
use Rattle.clocksync.specs.declared.Clock.{Clock}
use Rattle.tape.specs.Tape.{cleared}
use Rattle.client.specs.declared.Scene.{Scene}
use Rattle.fixed_timestepper.specs.declared.Advanced.{Advanced}
use Rattle.fixed_timestepper.specs.TimeKeeper.{ended_of}
use Rattle.session_state.specs.declared.Session.{Session}
use Rattle.session_state.specs.Session.{session_with}
use Rattle.session_answers.specs.Answers.{Reply}
use Rattle.session_stage.specs.Stage.{stage_after}
use Rattle.client.specs.Ledgers.{closed_of}

-- the reply to an update that nothing refuses, whose frames left this scene: the rest of the tape is zeroed
unfoldable pub accepted_by : Session → Clock → Bool → Scene → Advanced → List ℕ → Reply
accepted_by s c request u a tape =
    let w = ended_of s.settings u.worlds a.overshoot in
    record {
      refusal = accepted;
      session = session_with s (stage_after s.stage w.published.time) c w a.overshoot;
      frames = a.frames;
      steps = u.steps;
      request = request;
      left = closed_of u.left w.left.commands;
      right = closed_of u.right w.right.commands;
      words = a.at;
      tape = cleared tape a.at;
    }
