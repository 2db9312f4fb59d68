-- Lists of calls: document 01, "Contracts and cases". Each call is handed the session that the call before it returned; each update has its own inbox and tape.
-- Only `Answered`, `outcome_of` and `happened` go by the kind of a call. Definitions only. Assumes nothing.
use Rattle.std.specs.Prelude.{cond, List, [], ◌∷◌, ◌++◌, ◌≡◌, ℕ, ◌+◌, eqb, length, Float}
use Rattle.tape.specs.Words.{step_words, steps_on, commands_on, snapshot_words}
use Rattle.client.specs.declared.Ledger.{Ledger}
use Rattle.session_state.specs.declared.Session.{Session}
use Rattle.session_answers.specs.declared.UpdateAnswer.{UpdateAnswer}
use Rattle.session_issue.specs.declared.IssueAnswer.{IssueAnswer}
use Rattle.session.specs.Calls.{update_of}
use Rattle.session_answers.specs.Answers.{Updates}
use Rattle.session_issue.specs.Issue.{issue_of}
use Rattle.demand.specs.Events.{Event, events_of}

-- a call as it was made and answered: an update with its inbox, its tape before and after, or an issue
pub data Call : Type 0 where
  Update : (delta seconds : Float) (inbox was : List ℕ) (answer : UpdateAnswer) (last : List ℕ) → Call
  Issue : (handle : ℕ) (answer : IssueAnswer) → Call

-- ---- by the kind of a call

-- what the contracts of the code say of one call that was handed the session s
abbrev pub Answered : Session → Call → Type 0
Answered s (Update d t box was r last) = Updates (update_of s d t box (length was)) r last
Answered s (Issue h r) = r ≡ issue_of s h

-- what a call came to: the session that it returned, F, C, both ledgers, and its tape as it came back, of so many words; a call that has no tape has
-- one of no words
pub record Outcome : Type 0 where
  pub session : Session
  pub frames : ℕ
  pub caught : ℕ
  pub left : Ledger
  pub right : Ledger
  pub room : ℕ
  pub tape : List ℕ

-- a call in which nothing happens to the worlds, and that has no tape
abbrev pub quiet : Session → Ledger → Ledger → Outcome
quiet s l r = record { session = s; frames = 0; caught = 0; left = l; right = r; room = 0; tape = [] }

-- what a call came to, as its answer says it
abbrev pub outcome_of : Call → Outcome
outcome_of (Update d t box was r last) =
    record { session = r.session; frames = r.frames; caught = r.steps; left = r.left; right = r.right; room = length was; tape = last }
outcome_of (Issue h r) = quiet r.session r.left r.right

-- what happened to the worlds in one call that was handed the session s, whose worlds exist, by its arguments and the verdict on it
abbrev pub happened : Session → Call → List Event
happened s (Update d t box was r last) = events_of s d t box r.refusal
happened s (Issue h r) = []

-- ---- read off what a call came to

-- the session that a call returned
abbrev pub session_of : Call → Session
session_of c = (outcome_of c).session

-- F of a call
abbrev pub frames_of : Call → ℕ
frames_of c = (outcome_of c).frames

-- C of a call
abbrev pub catch_ups_of : Call → ℕ
catch_ups_of c = (outcome_of c).caught

-- the ledger of a side in an outcome
abbrev pub ledger_in : ℕ → Outcome → Ledger
ledger_in x o = cond (eqb x 0) o.left o.right

-- the ledger of a side
abbrev pub ledger_on : ℕ → Call → Ledger
ledger_on x c = ledger_in x (outcome_of c)

-- the step words on a call's tape as it was returned
abbrev pub marked_of : Call → ℕ
marked_of c = step_words (outcome_of c).tape

-- those of one side
abbrev pub marked_on : ℕ → Call → ℕ
marked_on x c = steps_on x (outcome_of c).tape

-- the snapshot words on a call's tape as it was returned
abbrev pub load_words_of : Call → ℕ
load_words_of c = snapshot_words (outcome_of c).tape

-- the command words of one side on a call's tape as it was returned
abbrev pub applied_on : ℕ → Call → ℕ
applied_on x c = commands_on x (outcome_of c).tape

-- ---- lists of calls

-- the calls of a list, each handed the session that the call before it returned
abbrev pub Chain : Session → List Call → Type 0
Chain s [] = Unit {0}
Chain s (c ∷ cs) = Answered s c × Chain (session_of c) cs

-- the session that the last call returned
abbrev pub end_of : Session → List Call → Session
end_of s [] = s
end_of s (c ∷ cs) = end_of (session_of c) cs

-- what happened in the calls, joined
abbrev pub trace_of : Session → List Call → List Event
trace_of s [] = []
trace_of s (c ∷ cs) = happened s c ++ trace_of (session_of c) cs

-- a number of each call, summed over a list
abbrev pub sum : (Call → ℕ) → List Call → ℕ
sum f [] = 0
sum f (c ∷ cs) = f c + sum f cs
