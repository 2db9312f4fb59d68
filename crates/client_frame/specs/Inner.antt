-- What inner functions of the code give. No contract of a call cites this module.
-- Definitions only. Assumes nothing.
use Rattle.std.specs.Prelude.{Bool, true, false, cond, ◌==◌, Option}
use Rattle.timestamp.specs.declared.Timestamp.{Timestamp}
use Rattle.timestamp.specs.Timestamps.{difference_of}
use Rattle.client.specs.declared.QueuedSnapshot.{QueuedSnapshot}
use Rattle.client.specs.declared.FastforwardingHealth.TheVariants.{Healthy, Obsolete, Overshot}
use Rattle.client.specs.declared.ReconciliationStatus.{ReconciliationStatus}
use Rattle.client.specs.declared.ReconciliationStatus.TheVariants.{AwaitingSnapshot, Fastforwarding, Blending}
use Rattle.client.specs.declared.ClientWorldSimulations.{ClientWorldSimulations}
use Rattle.client.specs.Status.{status_of}
use Rattle.client.specs.Sides.{old_stamp_of, new_stamp_of}
use Rattle.client_frame.specs.declared.FrameStart.{FrameStart}
use Rattle.client_frame.specs.Frame.{loads_of, is_obsolete, too_far_of}

-- what the next frame of these worlds begins with
unfoldable pub start_of : ClientWorldSimulations → FrameStart
start_of w = record { status = status_of w; loads = loads_of (status_of w) w.snapshots.queued; old = old_stamp_of w; new = new_stamp_of w }

-- refusal 26 by the stamps `old` and `new` that the worlds have before the frame, and the worlds e after it
unfoldable pub stops_by : ReconciliationStatus → Option QueuedSnapshot → (old new : Timestamp) → (e : ClientWorldSimulations) → Bool
stops_by AwaitingSnapshot q old new e = false
stops_by (Blending t) q old new e = false
stops_by (Fastforwarding Healthy) q old new e = cond (difference_of old.0 new.0 == 32768) true (is_obsolete (status_of e))
stops_by (Fastforwarding Obsolete) q old new e = too_far_of q old
stops_by (Fastforwarding Overshot) q old new e = false
