-- A session, by what a call changes of it: what is not named is carried. A field that is added goes into the two definitions here that write a session out.
-- Definitions only. Assumes nothing.
use Rattle.std.specs.Prelude.{Bool, true, false, Float}
use Rattle.timestamp.specs.Floats.{zero64}
use Rattle.settings.specs.declared.Settings.{Settings}
use Rattle.clocksync.specs.declared.Clock.{Clock}
use Rattle.client.specs.declared.ClientWorldSimulations.{ClientWorldSimulations}
use Rattle.client.specs.declared.Scene.{Scene}
use Rattle.client.specs.Ledgers.{empty_ledger}
use Rattle.session_state.specs.declared.Stage.{Stage}
use Rattle.session_state.specs.declared.Stage.TheVariants.{SyncingClock, SyncingInitialState, Ready}
use Rattle.session_state.specs.declared.Session.{Session}

-- worlds exist in every stage but the first
abbrev pub has_worlds : Stage → Bool
has_worlds SyncingClock = false
has_worlds SyncingInitialState = true
has_worlds Ready = true

-- commands are issued in the last stage alone
abbrev pub is_ready : Stage → Bool
is_ready SyncingClock = false
is_ready SyncingInitialState = false
is_ready Ready = true

-- a session as settings start it, with this clock and these worlds
abbrev pub starting_of : Settings → Clock → ClientWorldSimulations → Session
starting_of c k w = record { settings = c; stage = SyncingClock; clock = k; worlds = w; overshoot = zero64 }

-- the session with another stage, clock and overshoot and with other worlds
abbrev pub session_with : Session → Stage → Clock → ClientWorldSimulations → Float → Session
session_with s st c w o = record { settings = s.settings; stage = st; clock = c; worlds = w; overshoot = o }

-- with another clock
abbrev pub with_clock : Session → Clock → Session
with_clock s c = session_with s s.stage c s.worlds s.overshoot

-- with other worlds
abbrev pub with_worlds_of : Session → ClientWorldSimulations → Session
with_worlds_of s w = session_with s s.stage s.clock w s.overshoot

-- the scene of a session's worlds before anything happened to them
abbrev pub scene_of : Session → Scene
scene_of s = record { worlds = s.worlds; left = empty_ledger; right = empty_ledger; steps = 0 }
