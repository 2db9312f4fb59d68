-- Report: document 01, "Kept, and written anew", and refusals 20 and 21. Where a session stands.
-- Definitions only. Assumes nothing.
use Rattle.std.specs.Prelude.{None, Result, Ok, Err}
use Rattle.refusals.specs.Refusals.{accepted, Verdict, report_verdict_by}
use Rattle.refusals.specs.declared.Refusal.{Refusal}
use Rattle.client.specs.declared.ReconciliationStatus.TheVariants.{AwaitingSnapshot}
use Rattle.client.specs.Sides.{old_stamp_of, new_stamp_of}
use Rattle.client.specs.Status.{status_of}
use Rattle.session_state.specs.declared.Stage.TheVariants.{SyncingClock}
use Rattle.session_state.specs.declared.Session.{Session}
use Rattle.session_state.specs.Session.{has_worlds}
use Rattle.session_state.specs.Sound.{sound_of}
use Rattle.session_report.specs.declared.ReportAnswer.{ReportAnswer}
use Rattle.session_report.specs.declared.Reported.{Reported}

-- ---- its answer

-- what there is to tell where a report is refused
abbrev pub nothing_reported : Reported
nothing_reported = record { stage = SyncingClock; status = AwaitingSnapshot; old = record { 0 = 0 }; new = record { 0 = 0 }; time = None }

-- an answer by its verdict
abbrev pub report_answer : Verdict → Reported → ReportAnswer
report_answer v a = record { refusal = v; stage = a.stage; status = a.status; old = a.old; new = a.new; time = a.time }

-- the answer to a report that was accepted or refused
abbrev pub report_with : Result Reported Refusal → ReportAnswer
report_with (Ok a) = report_answer accepted a
report_with (Err e) = report_answer (Err e) nothing_reported

-- a refused report: stage SyncingClock, status AwaitingSnapshot, all else 0 or none
abbrev pub unreported : Refusal → ReportAnswer
unreported e = record { refusal = Err e; stage = SyncingClock; status = AwaitingSnapshot; old = record { 0 = 0 }; new = record { 0 = 0 }; time = None }

-- where a session with worlds stands
abbrev pub reported_of : Session → ReportAnswer
reported_of s =
    record {
      refusal = accepted;
      stage = s.stage;
      status = status_of s.worlds;
      old = old_stamp_of s.worlds;
      new = new_stamp_of s.worlds;
      time = s.worlds.published.time;
    }

-- ---- the call

-- the verdict on a report
abbrev pub report_verdict_of : Session → Verdict
report_verdict_of s = report_verdict_by (sound_of s) (has_worlds s.stage)

-- report by its verdict: refused, or where the session stands
abbrev pub report_by : Verdict → Session → ReportAnswer
report_by (Ok x) s = reported_of s
report_by (Err e) s = unreported e

-- report
unfoldable pub report_of : Session → ReportAnswer
report_of s = report_by (report_verdict_of s) s
