-- A sound session: document 01, "Turned down by the session", the sentence "Sound".
-- Definitions only. Assumes nothing.
use Rattle.std.specs.Prelude.{Bool, true, cond, ◌&&◌, eqb, ltb, Float, Option, Some, None, is_none}
use Rattle.std.specs.Float.Ieee.{eq}
use Rattle.timestamp.specs.Floats.{zero64, one64, between}
use Rattle.refusals.specs.Limits.{handle_room}
use Rattle.settings.specs.Settings.{passes_of}
use Rattle.clocksync.specs.declared.Clock.{Clock}
use Rattle.client.specs.declared.QueuedSnapshot.{QueuedSnapshot}
use Rattle.clocksync.specs.Clock.{sound_clock, ready_of}
use Rattle.command.specs.Soundness.{sound_buffer}
use Rattle.client.specs.declared.ClientWorldSimulations.{ClientWorldSimulations}
use Rattle.client.specs.Sides.{new_side_of, old_side_of, world_of, old_stamp_of, new_stamp_of}
use Rattle.session_state.specs.declared.Stage.{Stage}
use Rattle.session_state.specs.declared.Stage.TheVariants.{SyncingClock, SyncingInitialState, Ready}
use Rattle.session_state.specs.declared.Session.{Session}

-- a queued snapshot's handle is within 24 bits
unfoldable pub queued_sound : Option QueuedSnapshot → Bool
queued_sound None = true
queued_sound (Some q) = ltb q.handle handle_room

-- blend weight 0 to 1, and 0 where stamps differ
unfoldable pub weight_sound : ClientWorldSimulations → Bool
weight_sound w = cond (eqb (old_stamp_of w).0 (new_stamp_of w).0) (between zero64 one64 w.weight) (eq w.weight zero64)

-- old initialised only if new is
unfoldable pub init_sound : ClientWorldSimulations → Bool
init_sound w = cond (world_of w (old_side_of w)).init (world_of w (new_side_of w)).init true

-- counts within limits, entries in order and range, every handle within 24 bits: in the buffers of both worlds and in the base
unfoldable pub buffers_sound : ClientWorldSimulations → Bool
buffers_sound w = sound_buffer w.left.commands && (sound_buffer w.right.commands && sound_buffer w.base)

-- the worlds are sound
unfoldable pub worlds_sound : ClientWorldSimulations → Bool
worlds_sound w = buffers_sound w && (queued_sound w.snapshots.queued && (weight_sound w && init_sound w))

-- overshoot 0 to timestep
unfoldable pub overshoot_sound : Float → Float → Bool
overshoot_sound overshoot timestep = between zero64 timestep overshoot

-- offset and id present once worlds exist, no offset before
unfoldable pub connected_of : Stage → Clock → Bool
connected_of SyncingClock c = is_none c.offset
connected_of SyncingInitialState c = ready_of c
connected_of Ready c = ready_of c

-- a session is sound: a row of tests, each by its name
unfoldable pub sound_of : Session → Bool
sound_of s =
    passes_of s.settings
    && (sound_clock s.settings s.clock
    && (connected_of s.stage s.clock
    && (worlds_sound s.worlds
    && overshoot_sound s.overshoot s.settings.timestep)))
