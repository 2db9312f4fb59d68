-- The stages of a session: document 01, "src/client/stage.rs". The worlds are made once the clock is ready, and the session is Ready once there is a time to
-- display. Definitions only. Assumes nothing.
use Rattle.std.specs.Prelude.{cond, Float, Option, Some, None}
use Rattle.timestamp.specs.Floats.{zero64}
use Rattle.timestamp.specs.Timestamps.{bits_of}
use Rattle.timestamp.specs.FloatTimestamps.{from_seconds, stamp_of}
use Rattle.clocksync.specs.declared.Clock.{Clock}
use Rattle.clocksync.specs.Clock.{server_seconds_of, ready_of}
use Rattle.client.specs.Sides.{new_worlds_of}
use Rattle.session_state.specs.declared.Stage.{Stage}
use Rattle.session_state.specs.declared.Stage.TheVariants.{SyncingClock, SyncingInitialState, Ready}
use Rattle.session_state.specs.declared.Session.{Session}
use Rattle.session_state.specs.Session.{session_with, with_clock}

-- the session that starts its worlds at a server time: the first stamp uses it without lag, cut toward zero
abbrev pub started_at : Session → Clock → Option Float → Session
started_at s c None = s
started_at s c (Some t) = session_with s SyncingInitialState c (new_worlds_of (record { 0 = bits_of (stamp_of (from_seconds t s.settings.timestep)) })) zero64

-- a session after an update in the first stage: worlds are made where the clock is ready
unfoldable pub synced_of : Session → Clock → Float → Session
synced_of s c seconds = cond (ready_of c) (started_at s c (server_seconds_of c.offset seconds)) (with_clock s c)

-- the stage after an update: Ready once there is a time to display
abbrev pub stage_after : Stage → Option Float → Stage
stage_after SyncingClock t = SyncingClock
stage_after SyncingInitialState None = SyncingInitialState
stage_after SyncingInitialState (Some x) = Ready
stage_after Ready t = Ready
