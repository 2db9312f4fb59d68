-- The theorem about any list of calls is about something: two lists of calls, each from a session that its premises allow. proofs/Example proves it.
-- Definitions only. Assumes nothing.
use Rattle.std.specs.Prelude.{true, List, [], ◌∷◌, ◌≡◌, ℕ, replicate}
use Rattle.std.specs.Float.{nan}
use Rattle.refusals.specs.Refusals.{number_in}
use Rattle.session_state.specs.declared.Session.{Session}
use Rattle.session_state.specs.Sound.{sound_of}
use Rattle.session_answers.specs.Answers.{Reply, answer_of}
use Rattle.session.specs.Calls.{update_of}
use Rattle.session_issue.specs.Issue.{issue_of}
use Rattle.demand.specs.Calls.{Call, Update, Issue, Chain, sum, frames_of, catch_ups_of, load_words_of, ledger_on}
use Rattle.session_state.specs.Session.{has_worlds}
use Rattle.demand.specs.Demand.{Typed, Told}
use Rattle.cases.specs.Table.{seconds_of, heard_thrice, frame_one, at_four, at_five, at_six}

-- ---- calls

-- the numbers of the verdicts on calls
abbrev pub refusals : List Call → List ℕ
refusals [] = []
refusals (Update d t box was r last ∷ cs) = number_in r.refusal ∷ refusals cs
refusals (Issue h r ∷ cs) = number_in r.refusal ∷ refusals cs

-- an update of delta 1 at n seconds with this inbox, and its reply
abbrev pub played : ℕ → List ℕ → Reply → Call
played n inbox r = Update (seconds_of 1) (seconds_of n) inbox (replicate 8 7) (answer_of r) r.tape

-- the reply of an update at n seconds whose delta is no number
abbrev pub unplayed : Session → ℕ → Reply
unplayed s n = update_of s nan (seconds_of n) [] 3

-- that update
abbrev pub refused : Session → ℕ → Call
refused s n = Update nan (seconds_of n) [] (replicate 3 7) (answer_of (unplayed s n)) (unplayed s n).tape

-- after a reply, an issue of the command with the handle 9
abbrev pub issued : Reply → Call
issued r = Issue 9 (issue_of r.session 9)

-- ---- the two lists

-- m = 3: from worlds that were just made, with the old stamp 100, an update that loads a snapshot 7 behind, a refused update, and an issue before Ready
abbrev pub catching : List Call
catching =
    played 101 (0x2000005d ∷ 0x40000005 ∷ []) frame_one
    ∷ refused frame_one.session 102
    ∷ issued (unplayed frame_one.session 102)
    ∷ []

-- the run of document 01 from its fourth second on, then a refused update, and an issue, which is taken
abbrev pub playing : List Call
playing =
    played 4 (0x10000004 ∷ 0x40000009 ∷ 0x20000003 ∷ 0x40000005 ∷ []) at_four
    ∷ played 5 [] at_five
    ∷ played 6 [] at_six
    ∷ refused at_six.session 7
    ∷ issued (unplayed at_six.session 7)
    ∷ []

-- what is computed of calls from a session: the premises of the theorem, but for the chain, and these refusals, F and C
pub record Computed (s : Session) (cs : List Call) (ns : List ℕ) (f c : ℕ) : Type 0 where
  pub typed : Typed s
  pub sound : sound_of s ≡ true
  pub exists : has_worlds s.stage ≡ true
  pub answers : refusals cs ≡ ns
  pub frames : sum frames_of cs ≡ f
  pub caught : sum catch_ups_of cs ≡ c

-- of both lists; and of the second that it has one load, and that each world takes the command of its inbox and the one that is issued
pub record Counts : Type 0 where
  pub catches : Computed (heard_thrice 3 98).session catching (0 ∷ 2 ∷ 24 ∷ []) 1 3
  pub plays : Computed (heard_thrice 2 1).session playing (0 ∷ 0 ∷ 0 ∷ 2 ∷ 0 ∷ []) 3 3
  pub loads : sum load_words_of playing ≡ 1
  pub taken_left : sum (λ c. (ledger_on 0 c).taken) playing ≡ 2
  pub taken_right : sum (λ c. (ledger_on 1 c).taken) playing ≡ 2

-- the premises hold of both lists, and so all that the theorem says
pub record Example : Type 0 where
  pub counts : Counts
  pub chain_catching : Chain (heard_thrice 3 98).session catching
  pub chain_playing : Chain (heard_thrice 2 1).session playing
  pub told_catching : Told (heard_thrice 3 98).session catching
  pub told_playing : Told (heard_thrice 2 1).session playing
