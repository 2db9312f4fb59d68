-- `issue` meets its contract: refused, or the worlds that received the command. Assumes nothing.
use mathlib.Core.Path.{refl}
use Rattle.std.proofs.lemmas.Result.{err_from_is_err_and}
use Rattle.session_issue.proofs.Issuing.{issue_refused, issue_accepted}
use Rattle.session_issue.proofs.issue.Goals as goal

pub returns-in_err-of_issue : goal.returns-in_err-of_issue
returns-in_err-of_issue c =
    let p = err_from_is_err_and c.from_residual.result c.from_residual.ensures.1 in
    rw (p.1, p.2)
    (issue_refused _ _ c.last_completed_timestamp.ensures c.add-stamp.ensures c.scene-scene.ensures c.entry_of.ensures c.receive_command-full.ensures
    c.is_sound.ensures refl c.has_worlds.ensures c.is_ready.ensures c.of_issue.ensures c.in_err-of_issue.was)

pub returns : goal.returns
returns c =
    issue_accepted _ _ c.last_completed_timestamp.ensures c.add-stamp.ensures c.scene-scene.ensures c.entry_of.ensures c.receive_command-full.ensures
    c.is_sound.ensures refl c.has_worlds.ensures c.is_ready.ensures c.of_issue.ensures c.in_ok-of_issue.was
    (rw (c.closed.ensures, c.closed-2.ensures) refl)
