-- The status of a client: document 01, "src/client.rs". Status is `ReconciliationStatus`, with its weight in Blending and a `FastforwardingHealth` inside
-- Fastforwarding. Definitions only. Assumes nothing.
use Rattle.std.specs.Ordering.{is_gt}
use Rattle.std.specs.Prelude.{Bool, true, false, ◌==◌, Float, Option, Some, None}
use Rattle.std.specs.Float.Ieee.{lt}
use Rattle.timestamp.specs.Floats.{one64}
use Rattle.timestamp.specs.declared.Timestamp.{Timestamp}
use Rattle.timestamp.specs.Timestamps.{order_of}
use Rattle.client.specs.declared.FastforwardingHealth.TheVariants.{Healthy, Obsolete, Overshot}
use Rattle.client.specs.declared.ReconciliationStatus.{ReconciliationStatus}
use Rattle.client.specs.declared.ReconciliationStatus.TheVariants.{AwaitingSnapshot, Fastforwarding, Blending}
use Rattle.client.specs.declared.QueuedSnapshot.{QueuedSnapshot}
use Rattle.client.specs.declared.ClientWorldSimulations.{ClientWorldSimulations}
use Rattle.client.specs.Sides.{old_stamp_of, new_stamp_of}

-- the stamp a is later than b
unfoldable pub later_of : Timestamp → Timestamp → Bool
later_of a b = is_gt (order_of a.0 b.0)

-- the new world, with the stamp n, has overshot the old one, with the stamp o
unfoldable pub overshot_of : Timestamp → Timestamp → Bool
overshot_of n o = later_of n o

-- a queued snapshot is newer than the new world, with the stamp n
unfoldable pub newer_of : Option QueuedSnapshot → Timestamp → Bool
newer_of None n = false
newer_of (Some q) n = later_of q.stamp n

-- The tests in their order: the stamps are equal, the weight is below 1, the new world has overshot, a newer snapshot is queued
abbrev pub status_by : Bool → Bool → Bool → Bool → Float → ReconciliationStatus
status_by true true v q t = Blending t
status_by true false v q t = AwaitingSnapshot
status_by false l true q t = Fastforwarding Overshot
status_by false l false true t = Fastforwarding Obsolete
status_by false l false false t = Fastforwarding Healthy

-- the status: equal stamps (Blending or Awaiting by the weight), Overshot, Obsolete, Healthy
unfoldable pub status_of : ClientWorldSimulations → ReconciliationStatus
status_of w =
    status_by ((new_stamp_of w).0 == (old_stamp_of w).0) (lt w.weight one64) (overshot_of (new_stamp_of w) (old_stamp_of w))
    (newer_of w.snapshots.queued (new_stamp_of w)) w.weight
