-- What inner functions of the code give of the messages of an inbox. No contract of a call cites this module: proofs/Scanning ties it to Scan.
-- Definitions only. Assumes nothing.
use Rattle.std.specs.Prelude.{◌||◌, false, Float}
use Rattle.refusals.specs.Refusals.{accepted}
use Rattle.clocksync.specs.declared.Heard.{Heard}
use Rattle.client.specs.declared.Snapshots.{Snapshots}
use Rattle.timestamp.specs.declared.Timestamp.{Timestamp}
use Rattle.inbox.specs.Inbox.{Reading}
use Rattle.inbox_refusal.specs.Refusal.{lowest_with}
use Rattle.inbox_passes.specs.Passes.{is_for_worlds, hear_one, keep_one}
use Rattle.inbox_scan.specs.declared.Scan.{Scan}
use Rattle.inbox_scan.specs.Scan.{is_command}

-- nothing is found so far, and this was known before
abbrev pub nothing_found : Heard → Snapshots → Scan
nothing_found h s = record { verdict = accepted; worldly = false; commands = false; heard = h; snapshots = s }

-- what is found after one message more
abbrev pub scan_one : Float → Timestamp → Scan → Reading → Scan
scan_one seconds old a m =
    record {
      verdict = lowest_with a.verdict m;
      worldly = a.worldly || is_for_worlds m;
      commands = a.commands || is_command m;
      heard = hear_one seconds a.heard m;
      snapshots = keep_one old a.snapshots m;
    }
