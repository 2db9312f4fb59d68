-- Issue: document 01, "Kept, and written anew", and refusals 7, 20, 23 and 24. A command of this client is for the frame that is played next.
-- Definitions only. Assumes nothing.
use Rattle.std.specs.Prelude.{ℕ, ltb, Result, Ok, Err}
use Rattle.refusals.specs.Limits.{handle_room}
use Rattle.refusals.specs.declared.Refusal.{Refusal}
use Rattle.refusals.specs.Refusals.{Verdict, accepted, issue_verdict_by}
use Rattle.timestamp.specs.Timestamps.{sum_of}
use Rattle.command.specs.Entries.{Entry, entry_of}
use Rattle.client_receive.specs.Receive.{Received}
use Rattle.timestamp.specs.declared.Timestamp.{Timestamp}
use Rattle.client.specs.Ledgers.{empty_ledger, closed_of}
use Rattle.client.specs.Sides.{old_stamp_of}
use Rattle.client_receive.specs.Receive.{received_of}
use Rattle.session_state.specs.declared.Session.{Session}
use Rattle.session_state.specs.Session.{has_worlds, is_ready, with_worlds_of, scene_of}
use Rattle.session_state.specs.Sound.{sound_of}
use Rattle.session_issue.specs.declared.IssueAnswer.{IssueAnswer}
use Rattle.session_issue.specs.declared.Issued.{Issued}

-- ---- its answer

-- what is told of an issue that was refused: all 0
abbrev pub nothing_issued : Issued
nothing_issued = record { stamp = record { 0 = 0 }; left = empty_ledger; right = empty_ledger }

-- an answer by its verdict, with this session
abbrev pub issue_answer : Verdict → Session → Issued → IssueAnswer
issue_answer v s a = record { refusal = v; session = s; stamp = a.stamp; left = a.left; right = a.right }

-- the answer with this session, of an issue that was taken or refused
abbrev pub issue_with : Session → Result Issued Refusal → IssueAnswer
issue_with s (Ok a) = issue_answer accepted s a
issue_with s (Err e) = issue_answer (Err e) s nothing_issued

-- a refused issue: the session unchanged, all else 0
abbrev pub unissued : Refusal → Session → IssueAnswer
unissued e s = record { refusal = Err e; session = s; stamp = record { 0 = 0 }; left = empty_ledger; right = empty_ledger }

-- a command with this stamp, received by the worlds of a session
abbrev pub issued_of : Session → Timestamp → Received → IssueAnswer
issued_of s t r =
    record {
      refusal = accepted;
      session = with_worlds_of s r.scene.worlds;
      stamp = t;
      left = closed_of r.scene.left r.scene.worlds.left.commands;
      right = closed_of r.scene.right r.scene.worlds.right.commands;
    }

-- ---- the call

-- the stamp of a command issued now: the one after the old stamp
abbrev pub issue_stamp : Session → Timestamp
issue_stamp s = record { 0 = sum_of (old_stamp_of s.worlds).0 1 }

-- its entry
abbrev pub issued_entry : Session → ℕ → Entry
issued_entry s h = entry_of (issue_stamp s) h

-- the worlds receive it
abbrev pub received_now : Session → ℕ → Received
received_now s h = received_of (scene_of s) (issued_entry s h)

-- the verdict on an issue
abbrev pub issue_verdict_of : Session → ℕ → Verdict
issue_verdict_of s h = issue_verdict_by (ltb h handle_room) (sound_of s) (has_worlds s.stage) (received_now s h).full (is_ready s.stage)

-- issue by its verdict: refused, or the command with this stamp received
abbrev pub issue_by : Verdict → Session → Timestamp → Received → IssueAnswer
issue_by (Ok x) s t r = issued_of s t r
issue_by (Err e) s t r = unissued e s

-- issue
unfoldable pub issue_of : Session → ℕ → IssueAnswer
issue_of s h = issue_by (issue_verdict_of s h) s (issue_stamp s) (received_now s h)
