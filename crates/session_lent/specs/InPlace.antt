-- The call update over arrays that a host lends, of any length: document 01's update, with a refusal that leaves every sample and slot as it was.
-- Definitions only. Assumes nothing.
use Rattle.std.specs.Prelude.{ℕ, Bool, true, false, cond, ◌&&◌, List, ◌≡◌, eqb, length, Float, Result, Ok, Err}
use Rattle.refusals.specs.Limits.{sample_room, buffer_room}
use Rattle.refusals.specs.declared.Refusal.{Refusal}
use Rattle.refusals.specs.declared.Refusal.TheVariants.{Unsound}
use Rattle.refusals.specs.Refusals.{Verdict, accepted, once_verdict_by}
use Rattle.settings.specs.declared.Settings.{Settings}
use Rattle.command.specs.Entries.{Entry}
use Rattle.inbox_refusal.specs.Refusal.{refusal_of}
use Rattle.session_state.specs.declared.Session.{Session}
use Rattle.session_answers.specs.declared.Updated.{Updated}
use Rattle.session_answers.specs.declared.UpdateAnswer.{UpdateAnswer}
use Rattle.session_answers.specs.Answers.{Reply, Updates, nothing_played, refused_with}
use Rattle.session.specs.Calls.{times_ok, update_of}
use Rattle.session_lent.specs.declared.State.{State}
use Rattle.session_lent.specs.declared.LentAnswer.{LentAnswer}
use Rattle.session_lent.specs.Lent.{session_at}

-- ---- the answer, with the session's numbers

-- an answer by its verdict, with these numbers
abbrev pub lent_by : Verdict → State → Updated → LentAnswer
lent_by v s a =
    record {
      refusal = v;
      state = s;
      frames = a.frames;
      steps = a.steps;
      request = a.request;
      left = a.left;
      right = a.right;
      words = a.words;
    }

-- the answer with these numbers, to an update that was accepted or refused
abbrev pub lent_with : State → Result Updated Refusal → LentAnswer
lent_with s (Ok a) = lent_by accepted s a
lent_with s (Err e) = lent_by (Err e) s (nothing_played false)

-- the answer with a session in the place of the numbers
abbrev pub with_session : LentAnswer → Session → UpdateAnswer
with_session a s =
    record {
      refusal = a.refusal;
      session = s;
      frames = a.frames;
      steps = a.steps;
      request = a.request;
      left = a.left;
      right = a.right;
      words = a.words;
    }

-- ---- the lengths

-- so many samples and slots on the left, on the right and of the base are those of a session
abbrev pub lengths_fit : (samples left right base : ℕ) → Bool
lengths_fit n l r b = eqb n sample_room && (eqb l buffer_room && (eqb r buffer_room && eqb b buffer_room))

-- the arrays have the lengths of a session's
pub record AllFit (ss : List Float) (l r b : List Entry) : Type 0 where
  pub samples : length ss ≡ sample_room
  pub left : length l ≡ buffer_room
  pub right : length r ≡ buffer_room
  pub base : length b ≡ buffer_room

-- ---- the call

-- an array after an update: the session's where it was accepted, else as it was
abbrev pub array_after : {A : Type 0} → (accepted : Bool) → (now was : A) → A
array_after accepted now was = cond accepted now was

-- what a verdict refuses for, where the session is not sound if nothing else is told
abbrev pub refusal_by : Verdict → Refusal
refusal_by (Ok x) = Unsound
refusal_by (Err e) = e

-- an update over arrays of other lengths: refused for its times or its inbox, or else as one of a session that is not sound
abbrev pub unfit_of : Session → Float → Float → List ℕ → ℕ → Reply
unfit_of s delta seconds inbox len = refused_with (refusal_by (once_verdict_by (times_ok delta seconds) (refusal_of inbox) false)) s len

-- update, by whether the arrays are those of a session
abbrev pub update_fitting : Bool → Session → Float → Float → List ℕ → ℕ → Reply
update_fitting true s delta seconds inbox len = update_of s delta seconds inbox len
update_fitting false s delta seconds inbox len = unfit_of s delta seconds inbox len

-- an update in place as the code leaves it: its reply, in which the session is that of the numbers and arrays that are there now, and every word of the tape.
-- So a refusal, whose session is the one that was handed in, leaves all of them as they were
pub record UpdatesInPlace (c : Settings) (s : State) (delta seconds : Float) (inbox : List ℕ) (ss : List Float) (l r b : List Entry) (was : List ℕ)
    (a : LentAnswer) (ss₁ : List Float) (l₁ r₁ b₁ : List Entry) (last : List ℕ) : Type 0 where
  pub updates : Updates (update_fitting (lengths_fit (length ss) (length l) (length r) (length b)) (session_at c s ss l r b) delta seconds inbox (length was))
      (with_session a (session_at c a.state ss₁ l₁ r₁ b₁)) last
