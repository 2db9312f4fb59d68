-- One world: a step, a load and a reset, as document 01 has them under "src/world/simulation.rs". What is done to a world is told by words.
-- Definitions only. Assumes nothing.
use Rattle.std.specs.Ordering.{is_lt}
use Rattle.std.specs.Prelude.{ℕ, ◌+◌, Bool, true, false, cond, List, [], ◌∷◌, ◌++◌, ◌≡◌, length}
use Rattle.timestamp.specs.declared.Timestamp.{Timestamp}
use Rattle.timestamp.specs.Timestamps.{sum_of, order_of}
use Rattle.tape.specs.declared.Tape.{Tape}
use Rattle.tape.specs.Tape.{PutsOn}
use Rattle.tape.specs.Words.{step_word, snapshot_word}
use Rattle.command.specs.declared.CommandBuffer.{CommandBuffer}
use Rattle.command.specs.declared.Outcome.{Outcome}
use Rattle.refusals.specs.Limits.{buffer_room}
use Rattle.command.specs.Entries.{Entry}
use Rattle.command.specs.Buffer.{held, laid, inserted_of, moved_of, taken_of, rest_of, emptied_of, command_words}
use Rattle.simulation.specs.declared.Simulation.{Simulation}
use Rattle.simulation.specs.declared.Stepped.{Stepped}
use Rattle.simulation.specs.declared.Loaded.{Loaded}

-- a world of given commands, and whether a snapshot has initialised it
abbrev pub world_with : CommandBuffer → Bool → Simulation
world_with b i = record { commands = b; init = i }

-- the stamp after another
abbrev pub next_stamp : Timestamp → Timestamp
next_stamp t = record { 0 = sum_of t.0 1 }

-- a world that nothing has been loaded into, with the stamp t
abbrev pub new_world : Timestamp → Simulation
new_world t = world_with (laid [] t) false

-- a world that was offered a command, and what its buffer did with it
pub record Scheduled : Type 0 where
  pub world : Simulation
  pub outcome : Outcome

-- a command is offered to a world's buffer
unfoldable pub scheduled_of : Simulation → Entry → Scheduled
scheduled_of w e = record { world = world_with (inserted_of w.commands e).buffer w.init; outcome = (inserted_of w.commands e).outcome }

-- what was done to a world: the world after it, its words, the commands applied, and the commands that a move left out
pub record Done : Type 0 where
  pub world : Simulation
  pub words : List ℕ
  pub applied : ℕ
  pub leftout : ℕ

-- a step: the commands up to the next stamp are drained and applied, the world steps, and its midpoint moves to that stamp
unfoldable pub step_of : Simulation → ℕ → Done
step_of w side =
    record {
      world = world_with (moved_of (rest_of w.commands (next_stamp w.commands.timestamp)) (next_stamp w.commands.timestamp)).buffer w.init;
      words = command_words side (taken_of w.commands (next_stamp w.commands.timestamp)) ++ (step_word side ∷ []);
      applied = length (taken_of w.commands (next_stamp w.commands.timestamp));
      leftout = (moved_of (rest_of w.commands (next_stamp w.commands.timestamp)) (next_stamp w.commands.timestamp)).dropped;
    }

-- a step puts at most so many words: the commands of a full buffer, and its own
abbrev pub step_room : ℕ
step_room = buffer_room + 1

-- a reset from the stamp `now` to the stamp t goes back
unfoldable pub resets_back : Timestamp → Timestamp → Bool
resets_back t now = is_lt (order_of t.0 now.0)

-- a world whose midpoint was moved, and that applies nothing
abbrev pub kept_of : Simulation → Timestamp → Done
kept_of w t =
    record { world = world_with (moved_of w.commands t).buffer w.init; words = []; applied = 0; leftout = (moved_of w.commands t).dropped }

-- a world whose midpoint was moved, and that applies all commands that remain
abbrev pub flushed_of : Simulation → Timestamp → ℕ → Done
flushed_of w t side =
    record {
      world = world_with (emptied_of (moved_of w.commands t).buffer) w.init;
      words = command_words side (held (moved_of w.commands t).buffer);
      applied = length (held (moved_of w.commands t).buffer);
      leftout = (moved_of w.commands t).dropped;
    }

-- a reset: to an earlier stamp it moves, and then applies all that remain
unfoldable pub reset_of : Simulation → Timestamp → ℕ → Done
reset_of w t side = cond (resets_back t w.commands.timestamp) (flushed_of w t side) (kept_of w t)

-- a step or a reset as the code leaves it: the world w, and its words are on the tape
pub record Does (d : Done) (was : Tape) (w : Simulation) (r : Stepped) (now : Tape) : Type 0 where
  pub world : w ≡ d.world
  pub applied : r.applied ≡ d.applied
  pub leftout : r.leftout ≡ d.leftout
  pub puts : PutsOn was d.words now

-- a load: the base's commands take the place of the world's, moved to the snapshot's stamp; the ledger counts what is copied, replaced and left out
pub record Load : Type 0 where
  pub world : Simulation
  pub copied : ℕ
  pub replaced : ℕ
  pub leftout : ℕ

-- the load of a snapshot with the stamp t into a world, from the base buffer
unfoldable pub load_of : Simulation → CommandBuffer → Timestamp → Load
load_of w base t =
    record {
      world = world_with (moved_of base t).buffer true;
      copied = length (held base);
      replaced = length (held w.commands);
      leftout = (moved_of base t).dropped;
    }

-- a load as the code leaves it: the world w, and the snapshot's word is on the tape
pub record Loads (l : Load) (side handle : ℕ) (was : Tape) (w : Simulation) (r : Loaded) (now : Tape) : Type 0 where
  pub world : w ≡ l.world
  pub copied : r.copied ≡ l.copied
  pub replaced : r.replaced ≡ l.replaced
  pub leftout : r.leftout ≡ l.leftout
  pub puts : PutsOn was (snapshot_word side handle ∷ []) now
