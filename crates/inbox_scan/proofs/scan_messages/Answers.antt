-- `scan_messages` meets its contract. Assumes nothing.
use Rattle.std.proofs.Common.{rules, ap, ◌∙◌}
use Rattle.inbox.specs.Inbox.{messages_of}
use Rattle.inbox.specs.Passes.{over}
use Rattle.inbox_scan.specs.declared.Scan.{Scan}
use Rattle.inbox.proofs.Passes.{passed}
use Rattle.inbox_scan.specs.Inner.{scan_one}
use Rattle.inbox_scan.proofs.Scanning.{scans_all}
use Rattle.inbox_scan.proofs.scan_messages.Goals as goal

pub returns : goal.returns
returns c =
    let a = c.args in
    scans_all a.words.now a.seconds a.heard a.snapshots a.old
    (passed _ (scan_one a.seconds a.old) _ _ c.new.ensures c.fold.ensures.ran (λ s m t f k. search rules)
    ∙ ap (λ (x : Scan). over (scan_one a.seconds a.old) x (messages_of a.words.now)) c.start-start.ensures)
