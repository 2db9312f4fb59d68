-- What an inbox holds: document 01, "Inbox and tape" and "Turned down by the input". Definitions only. Assumes nothing.
use Rattle.std.specs.Prelude.{◌≡◌, Bool, true, false, cond, List, ℕ, ltb, Float, length, Ok, Err}
use Rattle.refusals.specs.Limits.{most_words}
use Rattle.timestamp.specs.declared.Timestamp.{Timestamp}
use Rattle.inbox.specs.declared.Message.TheVariants.{Command, Snapshot, Clock}
use Rattle.inbox.specs.Inbox.{Reading, messages_of, some}
use Rattle.inbox.specs.Passes.{over}
use Rattle.inbox_refusal.specs.Refusal.{refusal_of, refusal_in}
use Rattle.inbox_passes.specs.Passes.{has_for_worlds, heard_in, keep_one}
use Rattle.clocksync.specs.declared.Heard.{Heard}
use Rattle.client.specs.declared.Snapshots.{Snapshots}
use Rattle.inbox_scan.specs.declared.Scan.{Scan}

-- a message is a command
abbrev pub is_command : Reading → Bool
is_command (Ok (Command s h)) = true
is_command (Ok (Snapshot s h)) = false
is_command (Ok (Clock i s t)) = false
is_command (Err e) = false

-- an inbox has a command
unfoldable pub has_command : List ℕ → Bool
has_command words = some is_command (messages_of words)

-- the snapshots that those of an inbox leave, received by a client of the stamp `old`
unfoldable pub kept_in : Timestamp → List ℕ → Snapshots → Snapshots
kept_in old words s = over (keep_one old) s (messages_of words)

-- what an inbox over 4,096 words gives, of which nothing is read, and what any other gives
abbrev pub unless_long : {A : Type 0} → List ℕ → A → A → A
unless_long words was all = cond (ltb most_words (length words)) was all

-- what all messages of an inbox of any length tell
pub record ScansAll (words : List ℕ) (seconds : Float) (known : Heard) (was : Snapshots) (old : Timestamp) (r : Scan) : Type 0 where
  pub verdict : r.verdict ≡ refusal_in (messages_of words)
  pub worldly : r.worldly ≡ has_for_worlds words
  pub commands : r.commands ≡ has_command words
  pub heard : r.heard ≡ heard_in seconds words known
  pub snapshots : r.snapshots ≡ kept_in old words was

-- what is given of an inbox. Each field looks at messages of its own kind, and no message changes the stamp `old`: so one reading gives for each what 01's
-- passes give. Commands are received in a second reading, where there is one (inbox_passes)
pub record Scans (words : List ℕ) (seconds : Float) (known : Heard) (was : Snapshots) (old : Timestamp) (r : Scan) : Type 0 where
  pub verdict : r.verdict ≡ refusal_of words
  pub worldly : r.worldly ≡ unless_long words false (has_for_worlds words)
  pub commands : r.commands ≡ unless_long words false (has_command words)
  pub heard : r.heard ≡ unless_long words known (heard_in seconds words known)
  pub snapshots : r.snapshots ≡ unless_long words was (kept_in old words was)
