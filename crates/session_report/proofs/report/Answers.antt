-- `report` meets its contract: refused, or the state of the worlds. Assumes nothing.
use mathlib.Core.Path.{refl}
use Rattle.std.proofs.lemmas.Result.{err_from_is_err_and}
use Rattle.session_report.proofs.Reporting.{report_refused, report_accepted}
use Rattle.session_report.proofs.report.Goals as goal

pub returns-in_err-of_report : goal.returns-in_err-of_report
returns-in_err-of_report c =
    let p = err_from_is_err_and c.from_residual.result c.from_residual.ensures.1 in
    rw (p.1, p.2) (report_refused _ c.is_sound.ensures c.has_worlds.ensures c.of_report.ensures c.in_err-of_report.was)

pub returns : goal.returns
returns c =
    report_accepted _ c.is_sound.ensures c.has_worlds.ensures c.of_report.ensures c.in_ok-of_report.was
    (rw (c.infer_current_reconciliation_status.ensures, c.last_completed_timestamp.ensures, c.new_timestamp.ensures) refl)
