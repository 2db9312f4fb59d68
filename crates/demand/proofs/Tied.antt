-- The calls of demand 3 are those of the code: what the contract of each call says, as the check reads it, is what `Answered` asks, and what the types of
-- update's parameters say, as the check reads them, is what `Typed` asks. Assumes nothing.
use mathlib.Core.List.{List}
use mir.Val.{Val}
use contract.Lifetimes.{Lfts}
use borrow.Fn.World.{ArgsD, ResD}
use borrow.Fn.Kinds.{ended_of}
use denote.Triple.Clauses.{AtExit}
use denote.RattleType.{Valss}
use denote.Signature.{types_at}
use denote.Floats.{passes}
use denote.Laws.{Ises, Are, Is}
use Rattle.std.specs.contracts.option.Option as option-row
use Rattle.client.specs.contracts.QueuedSnapshot as snapshot-row
use Rattle.session_state.specs.contracts.Session as session-row
use Rattle.session_state.specs.declared.Session.{Session}
use Rattle.client.specs.declared.QueuedSnapshot.{QueuedSnapshot}
use Rattle.std.specs.Prelude.{Option, Some, None}
use Rattle.session.specs.contracts.calls.update as update
use Rattle.session.proofs.calls.update.Kinds as update-kinds
use Rattle.session.proofs.calls.update.Reads as update-reads
use Rattle.session.specs.contracts.calls.issue as issue
use Rattle.session.proofs.calls.issue.Kinds as issue-kinds
use Rattle.session.proofs.calls.issue.Reads as issue-reads
use Rattle.session.specs.contracts.in_place.update as update-in-place
use Rattle.session.proofs.in_place.update.Kinds as update-in-place-kinds
use Rattle.session.proofs.in_place.update.Reads as update-in-place-reads
use Rattle.session_issue.specs.contracts.issue as issue-in-place
use Rattle.session_issue.proofs.issue.Kinds as issue-in-place-kinds
use Rattle.session_issue.proofs.issue.Reads as issue-in-place-reads
use Rattle.session_answers.specs.Answers.{answer_with}
use Rattle.session_issue.specs.Issue.{issue_with}
use Rattle.demand.specs.Calls.{Answered, Update, Issue}
use Rattle.demand.specs.Demand.{Stamp, Typed}

-- ---- the answers

-- update: session, delta, seconds, inbox and tape in this order
pub update_answers : (κs : Lfts 2) (a : ArgsD update.signature κs) (r : ResD update.signature κs)
    (e : AtExit (ended_of 2 update-kinds.ps update-kinds.r) κs) → update-reads.Learnt κs a r e
    → Answered a.0 (Update a.1.0 a.1.1.0 a.1.1.1.0.now a.1.1.1.1.0.now r e.1.1.1.1.0.now)
update_answers κs a r e h = h

-- issue: session and handle
pub issue_answers : (κs : Lfts 0) (a : ArgsD issue.signature κs) (r : ResD issue.signature κs) (e : AtExit (ended_of 0 issue-kinds.ps issue-kinds.r) κs)
    → issue-reads.Learnt κs a r e
    → Answered a.0 (Issue a.1.0 r)
issue_answers κs a r e h = h

-- update in place: the session that is lent, as it was and as it is left, delta, seconds, inbox and tape in this order; the answer is the Result with the
-- session that is left
pub update_in_place_answers : (κs : Lfts 3) (a : ArgsD update-in-place.signature κs) (r : ResD update-in-place.signature κs)
    (e : AtExit (ended_of 3 update-in-place-kinds.ps update-in-place-kinds.r) κs) → update-in-place-reads.Learnt κs a r e
    → Answered a.0.now (Update a.1.0 a.1.1.0 a.1.1.1.0.now a.1.1.1.1.0.now (answer_with e.0.now r) e.1.1.1.1.0.now)
update_in_place_answers κs a r e h = h

-- issue in place: the session that is lent, and the handle
pub issue_in_place_answers : (κs : Lfts 1) (a : ArgsD issue-in-place.signature κs) (r : ResD issue-in-place.signature κs)
    (e : AtExit (ended_of 1 issue-in-place-kinds.ps issue-in-place-kinds.r) κs) → issue-in-place-reads.Learnt κs a r e
    → Answered a.0.now (Issue a.1.0 (issue_with e.0.now r))
issue_in_place_answers κs a r e h = h

-- ---- the types

queued_typed : (q : Option QueuedSnapshot) (vs : List Val) → Is (option-row.the_row snapshot-row.the_row) q vs → Stamp q
queued_typed None vs p = tt
queued_typed (Some q) vs p = p.1.1.1.1.0.1.1.0.1.1.0.1

-- whoever has a session, as the check reads its type, has one of these types: handed in, lent or returned, it is the same struct
pub session_typed : (s : Session) (vs : List Val) → Is session-row.the_row s vs → Typed s
session_typed session vs p =
    let s = p.1.1 in
    let c = s.1.1.0.1.1 in
    let w = s.1.1.1.0.1.1 in
    record {
      floats = record {
        timestep = passes _ s.0.1.1.0.1;
        timer = passes _ c.1.1.1.0.1;
        slots = c.1.0.1.0.1;
      };
      left = w.0.1.1.0.1.1.1.1.0.1.1.0.1;
      right = w.1.0.1.1.0.1.1.1.1.0.1.1.0.1;
      queued = queued_typed session.worlds.snapshots.queued _ w.1.1.1.1.0.1.1.0;
    }

-- whoever owns update's parameters has
pub update_typed : (κs : Lfts 2) (a : ArgsD update.signature κs) (vss : Valss (types_at (update.signature).params κs)) →
    Are (types_at (update.signature).params κs) (Ises (types_at (update.signature).params κs)) a vss → Typed a.0
update_typed κs a vss p = session_typed a.0 vss.0 p.0
