-- `scan_inbox` meets its contract, by the count of the words. Assumes nothing.
use Rattle.std.proofs.Common.{arith}
use Rattle.inbox_scan.proofs.Scanning.{scans_long, scans_read}
use Rattle.inbox_scan.proofs.scan_inbox.Goals as goal

pub returns-then-words-gt-MOST_WORDS : goal.returns-then-words-gt-MOST_WORDS
returns-then-words-gt-MOST_WORDS c =
    let a = c.args in
    rw c.start.ensures (scans_long a.words.now a.seconds a.heard a.snapshots a.old (omega arith))

pub returns : goal.returns
returns c =
    let a = c.args in
    scans_read a.words.now a.seconds a.heard a.snapshots a.old (omega arith) c.scan_messages.ensures
