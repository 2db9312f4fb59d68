-- What an update answers once it is decided: document 01, "Kept, and written anew", and what a refused update answers.
-- Definitions only. Assumes nothing.
use Rattle.std.specs.Prelude.{ℕ, ◌-◌, Bool, false, List, ◌++◌, ◌≡◌, length, replicate, Result, Ok, Err}
use Rattle.refusals.specs.declared.Refusal.{Refusal}
use Rattle.refusals.specs.Refusals.{Verdict, accepted}
use Rattle.clocksync.specs.declared.Clock.{Clock}
use Rattle.client.specs.declared.Ledger.{Ledger}
use Rattle.client.specs.Ledgers.{empty_ledger, closed_of}
use Rattle.fixed_timestepper.specs.TimeKeeper.{Run}
use Rattle.session_state.specs.declared.Session.{Session}
use Rattle.session_stage.specs.Stage.{stage_after}
use Rattle.session_state.specs.Session.{session_with}
use Rattle.session_answers.specs.declared.UpdateAnswer.{UpdateAnswer}
use Rattle.session_answers.specs.declared.Updated.{Updated}

-- the answer of an update, and its tape
pub record Reply : Type 0 where
  pub refusal : Verdict
  pub session : Session
  pub frames : ℕ
  pub steps : ℕ
  pub request : Bool
  pub left : Ledger
  pub right : Ledger
  pub words : ℕ
  pub tape : List ℕ

-- the answer of an update whose reply is this: each field of the answer
abbrev pub answer_of : Reply → UpdateAnswer
answer_of a =
    record {
      refusal = a.refusal;
      session = a.session;
      frames = a.frames;
      steps = a.steps;
      request = a.request;
      left = a.left;
      right = a.right;
      words = a.words;
    }

-- what there is to tell of an update that played nothing
abbrev pub nothing_played : Bool → Updated
nothing_played request = record { frames = 0; steps = 0; request = request; left = empty_ledger; right = empty_ledger; words = 0 }

-- an answer by its verdict, with this session
abbrev pub answer_by : Verdict → Session → Updated → UpdateAnswer
answer_by v s a =
    record {
      refusal = v;
      session = s;
      frames = a.frames;
      steps = a.steps;
      request = a.request;
      left = a.left;
      right = a.right;
      words = a.words;
    }

-- the answer with this session, to an update that was accepted or refused
abbrev pub answer_with : Session → Result Updated Refusal → UpdateAnswer
answer_with s (Ok a) = answer_by accepted s a
answer_with s (Err e) = answer_by (Err e) s (nothing_played false)

-- an update as the code leaves it: its whole answer, and every word of its tape
pub record Updates (a : Reply) (r : UpdateAnswer) (last : List ℕ) : Type 0 where
  pub answer : r ≡ answer_of a
  pub tape : last ≡ a.tape

-- an update that leaves the session as it is, whichever it is
pub record Leaves (reply : Session → Reply) (a : Result Updated Refusal) (last : List ℕ) : Type 0 where
  pub updates : (s : Session) → Updates (reply s) (answer_with s a) last

-- the reply of an update that played nothing: the tape (of so many words) is zeroed
abbrev pub unplayed_of : Verdict → Session → Bool → ℕ → Reply
unplayed_of v s request len =
    record { refusal = v; session = s; frames = 0; steps = 0; request = request; left = empty_ledger; right = empty_ledger; words = 0; tape = replicate len 0 }

-- a refused update: the session unchanged, the tape zeroed, all else 0 or no
unfoldable pub refused_with : Refusal → Session → ℕ → Reply
refused_with e s len = unplayed_of (Err e) s false len

-- a reply, unless the update is refused
abbrev pub unless_refused : Verdict → Session → ℕ → Reply → Reply
unless_refused (Ok x) s len a = a
unless_refused (Err e) s len a = refused_with e s len

-- an update that was played to its end, whose words fit the tape: they are on it, and zeros after them
unfoldable pub accepted_of : Session → Clock → Bool → Run → ℕ → Reply
accepted_of s c request r len =
    record {
      refusal = accepted;
      session = session_with s (stage_after s.stage r.played.scene.worlds.published.time) c r.played.scene.worlds r.overshoot;
      frames = r.frames;
      steps = r.played.scene.steps;
      request = request;
      left = closed_of r.played.scene.left r.played.scene.worlds.left.commands;
      right = closed_of r.played.scene.right r.played.scene.worlds.right.commands;
      words = length r.played.words;
      tape = r.played.words ++ replicate (len - length r.played.words) 0;
    }
