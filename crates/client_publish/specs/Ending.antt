-- What every update ends with: document 01, "src/client.rs" and "src/world/display_state.rs", and refusal 27.
-- Definitions only. Assumes nothing.
use Rattle.std.specs.Prelude.{ℕ, Bool, cond, Float, Option, Some, None}
use Rattle.std.specs.Float.{binary64}
use Rattle.std.specs.Float.Ieee.{add, mul}
use Rattle.timestamp.specs.Floats.{zero64, one64, between}
use Rattle.timestamp.specs.declared.Timestamp.{Timestamp}
use Rattle.timestamp.specs.Timestamps.{difference_of, in_range}
use Rattle.timestamp.specs.FloatTimestamps.{float_of}
use Rattle.command.specs.declared.CommandBuffer.{CommandBuffer}
use Rattle.command.specs.Buffer.{moved_of}
use Rattle.client.specs.declared.Published.{Published}
use Rattle.client.specs.declared.ClientWorldSimulations.{ClientWorldSimulations}
use Rattle.client.specs.Sides.{with_base, old_stamp_of, with_snapshots, with_published}
use Rattle.client.specs.Status.{later_of}

-- a tween weight is in 0 to 1; where it is not, refusal 27
unfoldable pub weight_ok : Float → Bool
weight_ok t = between zero64 one64 t

-- the time between the stamps b and a at a weight, in frames, not wrapped
unfoldable pub time_of : Timestamp → Timestamp → Float → Float
time_of b a t = add binary64 (float_of b.0) (mul binary64 t (float_of (difference_of a.0 b.0)))

-- the displayed time is worked out anew where two states are published
abbrev pub displayed_by : Option Timestamp → Option Timestamp → Published → Float → Published
displayed_by None a p t = p
displayed_by (Some b) None p t = p
displayed_by (Some b) (Some a) p t = record { before = Some b; after = Some a; time = Some (time_of b a t) }

-- what is displayed of the published states at a shaped weight
unfoldable pub displayed_of : Published → Float → Published
displayed_of p t = displayed_by p.before p.after p t

-- the stamp `old` less twice the lag in frames
abbrev pub back_by : Timestamp → ℕ → Option Timestamp
back_by old lag = Some (record { 0 = difference_of (difference_of old.0 lag) lag })

-- the last queued stamp, set anew where it lies outside the old stamp's range or is later than it
unfoldable pub revised_of : Option Timestamp → Timestamp → ℕ → Option Timestamp
revised_of None old lag = None
revised_of (Some l) old lag = cond (in_range old.0 l.0) (cond (later_of l old) (back_by old lag) (Some l)) (back_by old lag)

-- the worlds with another base, another last queued stamp and other published states
abbrev pub ending_with : ClientWorldSimulations → CommandBuffer → Option Timestamp → Published → ClientWorldSimulations
ending_with w b l p =
    with_published
    (with_snapshots
    (with_base w b)
    (record { queued = w.snapshots.queued; lastqueued = l; lastreceived = w.snapshots.lastreceived }))
    p

-- what every update ends with, at a shaped weight and a lag in frames
unfoldable pub post_update_of : ClientWorldSimulations → Float → ℕ → ClientWorldSimulations
post_update_of w t lag = ending_with w (moved_of w.base (old_stamp_of w)).buffer (revised_of w.snapshots.lastqueued (old_stamp_of w) lag)
    (displayed_of w.published t)
