-- What inner functions of the code give, of an inbox that was read and of a run whose words are on the tape already. No contract of a call cites this
-- module: proofs/Answering ties it to Calls. Definitions only. Assumes nothing.
use Rattle.std.specs.Prelude.{ℕ, Bool, List, ◌≡◌, leb, length, Float, Result, Ok, Err}
use Rattle.refusals.specs.declared.Refusal.{Refusal}
use Rattle.refusals.specs.Refusals.{Verdict, accepted, syncing_verdict_by, end_verdict_by}
use Rattle.settings.specs.declared.Settings.{Settings}
use Rattle.clocksync.specs.declared.Heard.{Heard}
use Rattle.clocksync.specs.Clock.{ticked_of, listen_of, settled_of}
use Rattle.client.specs.Sides.{old_stamp_of}
use Rattle.client_receive.specs.Receive.{Received}
use Rattle.client_publish.specs.Ending.{weight_ok}
use Rattle.timestamp.specs.Floats.{tween_of}
use Rattle.fixed_timestepper.specs.declared.Advanced.{Advanced}
use Rattle.inbox_passes.specs.Passes.{has_for_worlds, heard_in, received_in}
use Rattle.inbox_scan.specs.declared.Scan.{Scan}
use Rattle.inbox_scan.specs.Scan.{has_command, kept_in}
use Rattle.session_state.specs.declared.Session.{Session}
use Rattle.session_answers.specs.declared.Updated.{Updated}
use Rattle.session_answers.specs.Answers.{Reply, Updates, answer_with, unplayed_of, refused_with, unless_refused}
use Rattle.session_stage.specs.Stage.{synced_of}
use Rattle.session.specs.Calls.{request_of, scene_with}

-- what an inbox that is not too long holds for a session
pub record Scanned (s : Session) (seconds : Float) (words : List ℕ) (r : Scan) : Type 0 where
  pub worldly : r.worldly ≡ has_for_worlds words
  pub commands : r.commands ≡ has_command words
  pub heard : r.heard ≡ heard_in seconds words (listen_of s.clock)
  pub snapshots : r.snapshots ≡ kept_in (old_stamp_of s.worlds) words s.worlds.snapshots

-- an update while the clock syncs, by what was heard
abbrev pub clock_moved_by : Session → Float → Float → Bool → Heard → ℕ → Reply
clock_moved_by s delta seconds worldly h len =
    unless_refused (syncing_verdict_by worldly h.other) s len
    (unplayed_of accepted (synced_of s (settled_of s.settings (ticked_of s.clock s.settings.period delta).clock h) seconds) (request_of s delta) len)

-- what the commands and the snapshots of an inbox leave
abbrev pub arrived_in : List ℕ → Received → Received
arrived_in words r = record { scene = scene_with (received_in words r) words; full = (received_in words r).full }

-- an update of the session `was` that is decided: what is told of it, or that it is refused, which leaves the session as it is; the tape has `len` words
abbrev pub decided : Reply → (was : Session) → (len : ℕ) → Result Updated Refusal → (now : Session) → (last : List ℕ) → Type 0
decided a was len (Ok told) now last = Updates a (answer_with now (Ok told)) last
decided a was len (Err e) now last = (a ≡ refused_with e was len) × ((now ≡ was) × (length last ≡ len))

-- the verdict on an update whose frames have ended
abbrev pub end_verdict_of : Settings → Advanced → ℕ → Verdict
end_verdict_of c a len = end_verdict_by a.stop (weight_ok (tween_of a.overshoot c.timestep)) (leb a.at len)
