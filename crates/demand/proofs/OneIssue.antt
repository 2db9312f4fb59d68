-- The law of one call, of an issue. Assumes nothing.
use mathlib.Core.Path.{◌≡◌, sym, subst}
use mathlib.Core.List.{[]}
use Prim.Native.Nat.{ℕ}
use Rattle.tape.specs.Words.{commands_on}
use Rattle.session_laws.proofs.SoundCalls.{issue_stays_sound, issue_fits}
use Rattle.session_laws.proofs.TraceReading.{issue_keeps}
use Rattle.session_laws.proofs.LedgerCalls.{issue_settles}
use Rattle.session_state.specs.declared.Session.{Session}
use Rattle.session_issue.specs.declared.IssueAnswer.{IssueAnswer}
use Rattle.session_issue.specs.Issue.{issue_of}
use Rattle.demand.specs.Calls.{Outcome, quiet}
use Rattle.demand.proofs.OneCall.{OneCall, quiet_happens}

-- what an issue came to, by its answer
abbrev issued : IssueAnswer → Outcome
issued r = quiet r.session r.left r.right

by_definition : (s : Session) (h : ℕ) → OneCall s (issued (issue_of s h)) []
unfolding commands_on
by_definition s h =
    record {
      floats = λ f. issue_fits s h f;
      sound = λ f e. issue_stays_sound s h e;
      happens = λ k. quiet_happens s (issue_of s h).session (issue_of s h).left (issue_of s h).right (issue_keeps s h) k;
      ledgers = λ x p w. issue_settles x s h p w;
    }

-- an issue
pub one_issue : (s : Session) (h : ℕ) (r : IssueAnswer) → r ≡ issue_of s h → OneCall s (issued r) []
one_issue s h r a = subst (λ (x : IssueAnswer). OneCall s (issued x) []) (sym a) (by_definition s h)
