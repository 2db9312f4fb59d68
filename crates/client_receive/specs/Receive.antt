-- Commands and snapshots that arrive: document 01, "src/client.rs", and refusal 23.
-- Definitions only. Assumes nothing.
use Rattle.std.specs.Prelude.{ℕ, Bool, true, false, ◌||◌, Option, Some, None}
use Rattle.timestamp.specs.declared.Timestamp.{Timestamp}
use Rattle.command.specs.Entries.{Entry}
use Rattle.command.specs.Buffer.{inserted_of, taken_by, full_by}
use Rattle.simulation.specs.World.{scheduled_of}
use Rattle.client.specs.declared.QueuedSnapshot.{QueuedSnapshot}
use Rattle.client.specs.declared.Snapshots.{Snapshots}
use Rattle.client.specs.declared.ClientWorldSimulations.{ClientWorldSimulations}
use Rattle.client.specs.declared.Scene.{Scene}
use Rattle.client.specs.Ledgers.{takes}
use Rattle.client.specs.Sides.{new_side_of, old_side_of, world_of, with_world, with_base, with_snapshots, with_worlds, with_ledger, ledger_of, old_stamp_of}
use Rattle.client.specs.Status.{later_of}

-- a scene after a command was received, and whether a buffer that takes it was full
pub record Received : Type 0 where
  pub scene : Scene
  pub full : Bool

-- nothing is received yet
abbrev pub none_received : Scene → Received
none_received s = record { scene = s; full = false }

-- what was received, with another word on whether a buffer was full
abbrev pub with_full : Received → Bool → Received
with_full r f = record { scene = r.scene; full = f }

-- a command is offered to the base buffer
unfoldable pub offered_base : Scene → Entry → Received
offered_base s e =
    record {
      scene = with_worlds s (with_base s.worlds (inserted_of s.worlds.base e).buffer);
      full = full_by (inserted_of s.worlds.base e).outcome;
    }

-- a command is offered to the world of a side, and counted where it is taken
unfoldable pub offered_side : Scene → ℕ → Entry → Received
offered_side s side e =
    record {
      scene = with_ledger (with_worlds s (with_world s.worlds side (scheduled_of (world_of s.worlds side) e).world)) side
          (takes (ledger_of s side) (taken_by (scheduled_of (world_of s.worlds side) e).outcome));
      full = full_by (scheduled_of (world_of s.worlds side) e).outcome;
    }

-- what was received, and then more; once a buffer was full it stays said
abbrev pub also_full : Bool → Received → Received
also_full f r = with_full r (f || r.full)

-- a command arrives: it goes to the base, the old and the new world, in this order
unfoldable pub received_of : Scene → Entry → Received
received_of s e =
    also_full (offered_base s e).full
    (also_full (offered_side (offered_base s e).scene (old_side_of s.worlds) e).full
    (offered_side (offered_side (offered_base s e).scene (old_side_of s.worlds) e).scene (new_side_of s.worlds) e))

-- a snapshot is later than the old stamp
unfoldable pub from_future_of : Timestamp → Timestamp → Bool
from_future_of t old = later_of t old

-- a snapshot is later than the last one that was queued, or none was
unfoldable pub fresh_of : Option Timestamp → Timestamp → Bool
fresh_of None t = true
fresh_of (Some l) t = later_of t l

-- the last queued stamp is the queued snapshot's, where there is one, also after a stale snapshot
unfoldable pub noted_of : Option QueuedSnapshot → Option Timestamp → Option Timestamp
noted_of None l = l
noted_of (Some q) l = Some q.stamp

-- the snapshots after one was received: from the future it is only noted; fresh it is queued; stale it is not
unfoldable pub snapshots_by : Bool → Bool → Snapshots → Timestamp → ℕ → Snapshots
snapshots_by true f s t h = record { queued = s.queued; lastqueued = s.lastqueued; lastreceived = Some t }
snapshots_by false true s t h = record { queued = Some (record { stamp = t; handle = h }); lastqueued = Some t; lastreceived = Some t }
snapshots_by false false s t h = record { queued = s.queued; lastqueued = noted_of s.queued s.lastqueued; lastreceived = Some t }

-- a snapshot with a stamp and a handle arrives where the old stamp is `old`
unfoldable pub snapshots_of : Snapshots → Timestamp → Timestamp → ℕ → Snapshots
snapshots_of s old t h = snapshots_by (from_future_of t old) (fresh_of s.lastqueued t) s t h

-- a snapshot arrives
unfoldable pub notes_of : ClientWorldSimulations → Timestamp → ℕ → ClientWorldSimulations
notes_of w t h = with_snapshots w (snapshots_of w.snapshots (old_stamp_of w) t h)
