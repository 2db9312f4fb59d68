-- A session over arrays that are lent: its numbers go by value, and beside them stand the samples of its clock and the slots of its three buffers. What it
-- means is document 01's session. Definitions only. Assumes nothing.
use Rattle.std.specs.Prelude.{List, Float}
use Rattle.settings.specs.declared.Settings.{Settings}
use Rattle.clocksync.specs.declared.Clock.{Clock}
use Rattle.command.specs.Entries.{Entry}
use Rattle.simulation.specs.declared.Simulation.{Simulation}
use Rattle.client.specs.declared.ClientWorldSimulations.{ClientWorldSimulations}
use Rattle.session_state.specs.declared.Session.{Session}
use Rattle.session_lent.specs.declared.ClockNumbers.{ClockNumbers}
use Rattle.session_lent.specs.declared.World.{World}
use Rattle.session_lent.specs.declared.Worlds.{Worlds}
use Rattle.session_lent.specs.declared.State.{State}

-- ---- the session that numbers and arrays are

-- samples and numbers are this clock
abbrev pub clock_at : List Float → ClockNumbers → Clock
clock_at samples c = record { offset = c.offset; samples = samples; len = c.len; timer = c.timer; id = c.id }

-- a world of these slots
abbrev pub world_at : World → List Entry → Simulation
world_at w e = record { commands = record { entries = e; len = w.len; timestamp = w.stamp }; init = w.init }

-- the worlds of these slots: left, right and base
abbrev pub worlds_at : Worlds → List Entry → List Entry → List Entry → ClientWorldSimulations
worlds_at w l r b =
    record {
      left = world_at w.left l;
      right = world_at w.right r;
      new = w.new;
      base = record { entries = b; len = w.base; timestamp = w.midpoint };
      snapshots = w.snapshots;
      weight = w.weight;
      published = w.published;
    }

-- the session of these samples and slots
abbrev pub session_at : Settings → State → List Float → List Entry → List Entry → List Entry → Session
session_at c s ss l r b =
    record { settings = c; stage = s.stage; clock = clock_at ss s.clock; worlds = worlds_at s.worlds l r b; overshoot = s.overshoot }

-- ---- the numbers of a session

-- of a clock
abbrev pub clock_in : Clock → ClockNumbers
clock_in c = record { offset = c.offset; len = c.len; timer = c.timer; id = c.id }

-- of a world
abbrev pub world_in : Simulation → World
world_in w = record { len = w.commands.len; stamp = w.commands.timestamp; init = w.init }

-- of the worlds
abbrev pub worlds_in : ClientWorldSimulations → Worlds
worlds_in w =
    record {
      left = world_in w.left;
      right = world_in w.right;
      new = w.new;
      base = w.base.len;
      midpoint = w.base.timestamp;
      snapshots = w.snapshots;
      weight = w.weight;
      published = w.published;
    }

-- of a session: with its settings, samples and slots they are the session
abbrev pub state_in : Session → State
state_in s = record { stage = s.stage; clock = clock_in s.clock; worlds = worlds_in s.worlds; overshoot = s.overshoot }
