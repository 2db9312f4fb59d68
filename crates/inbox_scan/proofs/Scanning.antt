-- What an inbox holds: what all messages leave, field by field. Assumes nothing.
use Rattle.std.proofs.Common.{◌≡◌, ℕ, ◌<◌, ◌≤◌, Bool, true, false, ◌||◌, List, [], ◌∷◌, length, refl, sym, ap, ◌∙◌, lt-ltb, le-ltb, Err}
use lib.Ieee.{Float}
use Rattle.timestamp.specs.declared.Timestamp.{Timestamp}
use Rattle.refusals.specs.declared.Refusal.TheVariants.{Length}
use Rattle.refusals.specs.Refusals.{Verdict, accepted}
use Rattle.inbox.specs.Inbox.{Reading, messages_of, some}
use Rattle.inbox.specs.Passes.{over}
use Rattle.inbox_refusal.specs.Refusal.{lowest_with, refusal_of}
use Rattle.inbox_refusal.proofs.Refusals.{refusal_long, refusal_lowest}
use Rattle.inbox_passes.specs.Passes.{is_for_worlds, has_for_worlds, hear_one, heard_in, keep_one, noted_in}
use Rattle.inbox_passes.proofs.Reading as Reading
use Rattle.clocksync.specs.declared.Heard.{Heard}
use Rattle.client.specs.declared.Snapshots.{Snapshots}
use Rattle.client.specs.declared.ClientWorldSimulations.{ClientWorldSimulations}
use Rattle.client.specs.Sides.{old_stamp_of, with_snapshots}
use Rattle.inbox_scan.specs.declared.Scan.{Scan}
use Rattle.inbox_scan.specs.Scan.{is_command, has_command, kept_in, Scans, ScansAll}
use Rattle.inbox_scan.specs.Inner.{scan_one}

or_false : (b : Bool) → b ≡ b || false
or_false true = refl
or_false false = refl

or_three : (a b c : Bool) → (a || b) || c ≡ a || (b || c)
or_three true b c = refl
or_three false b c = refl

-- ---- all messages: each field is folded by itself
-- whether one passes the test p, or one did before
abbrev met : (Reading → Bool) → Bool → Reading → Bool
met p b m = b || p m

met_over : (p : Reading → Bool) (b : Bool) (ms : List Reading) → over (met p) b ms ≡ b || some p ms
met_over p b [] = or_false b
met_over p b (m ∷ ms) = met_over p (b || p m) ms ∙ or_three b (p m) (some p ms)

abbrev scan_with : Verdict → Bool → Bool → Heard → Snapshots → Scan
scan_with v w c h s = record { verdict = v; worldly = w; commands = c; heard = h; snapshots = s }

scan_over : (seconds : Float) (old : Timestamp) (a : Scan) (ms : List Reading) → over (scan_one seconds old) a ms
    ≡ scan_with (over lowest_with a.verdict ms) (over (met is_for_worlds) a.worldly ms) (over (met is_command) a.commands ms)
    (over (hear_one seconds) a.heard ms) (over (keep_one old) a.snapshots ms)
scan_over seconds old a [] = refl
scan_over seconds old a (m ∷ ms) = scan_over seconds old (scan_one seconds old a m) ms

module _ (words : List ℕ) (seconds : Float) (known : Heard) (was : Snapshots) (old : Timestamp) where
  -- what all messages leave
  pub scans_all : {r : Scan} → r ≡ over (scan_one seconds old) (scan_with accepted false false known was) (messages_of words)
      → ScansAll words seconds known was old r
  unfolding has_for_worlds has_command heard_in kept_in
  scans_all {r} e =
      let all = e ∙ scan_over seconds old (scan_with accepted false false known was) (messages_of words) in
      record {
        verdict = ap (λ (x : Scan). x.verdict) all ∙ sym (refusal_lowest words);
        worldly = ap (λ (x : Scan). x.worldly) all ∙ met_over is_for_worlds false (messages_of words);
        commands = ap (λ (x : Scan). x.commands) all ∙ met_over is_command false (messages_of words);
        heard = ap (λ (x : Scan). x.heard) all;
        snapshots = ap (λ (x : Scan). x.snapshots) all;
      }

  -- at most 4,096 words: they are what the inbox holds
  pub scans_read : {r : Scan} → length words ≤ 4096 → ScansAll words seconds known was old r → Scans words seconds known was old r
  unfolding refusal_of
  scans_read {r} few k =
      record {
        verdict = rw (le-ltb 4096 (length words) few) k.verdict;
        worldly = rw (le-ltb 4096 (length words) few) k.worldly;
        commands = rw (le-ltb 4096 (length words) few) k.commands;
        heard = rw (le-ltb 4096 (length words) few) k.heard;
        snapshots = rw (le-ltb 4096 (length words) few) k.snapshots;
      }

  -- more: refused, and none is read
  pub scans_long : 4096 < length words → Scans words seconds known was old (scan_with (Err Length) false false known was)
  scans_long long = record {
    verdict = refusal_long words long;
    worldly = rw (lt-ltb 4096 (length words) long) refl;
    commands = rw (lt-ltb 4096 (length words) long) refl;
    heard = rw (lt-ltb 4096 (length words) long) refl;
    snapshots = rw (lt-ltb 4096 (length words) long) refl;
  }

-- the third pass over worlds changes their snapshots alone
pub noted_kept : (words : List ℕ) (w : ClientWorldSimulations) → noted_in words w ≡ with_snapshots w (kept_in (old_stamp_of w) words w.snapshots)
unfolding kept_in
noted_kept words w = Reading.noted_kept words w
