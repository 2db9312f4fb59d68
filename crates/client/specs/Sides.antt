-- The two sides of a client, as document 01 has them under "src/old_new.rs", and the ledger of each, as under "src/client.rs". Side 0 is left and side 1 right.
-- Definitions only. Assumes nothing.
use Rattle.std.specs.Prelude.{◌≡◌, ℕ, cond, List, [], ◌++◌, ◌==◌, Float, None}
use Rattle.timestamp.specs.Floats.{one64}
use Rattle.timestamp.specs.declared.Timestamp.{Timestamp}
use Rattle.tape.specs.declared.Tape.{Tape}
use Rattle.tape.specs.declared.Side.TheVariants.{Left}
use Rattle.tape.specs.Sides.{is_left, side_number, side_named}
use Rattle.tape.specs.Tape.{PutsOn}
use Rattle.command.specs.declared.CommandBuffer.{CommandBuffer}
use Rattle.command.specs.Buffer.{laid}
use Rattle.simulation.specs.declared.Simulation.{Simulation}
use Rattle.simulation.specs.World.{Done, new_world}
use Rattle.client.specs.declared.Snapshots.{Snapshots}
use Rattle.client.specs.declared.Published.{Published}
use Rattle.client.specs.declared.ClientWorldSimulations.{ClientWorldSimulations}
use Rattle.client.specs.declared.Ledger.{Ledger}
use Rattle.client.specs.declared.Scene.{Scene}
use Rattle.client.specs.Ledgers.{applies}

-- the side of the new world
unfoldable pub new_side_of : ClientWorldSimulations → ℕ
new_side_of w = side_number w.new

-- the side of the old world
unfoldable pub old_side_of : ClientWorldSimulations → ℕ
old_side_of w = cond (is_left w.new) 1 0

-- the world of a side
unfoldable pub world_of : ClientWorldSimulations → ℕ → Simulation
world_of w side = cond (side == 0) w.left w.right

-- the worlds with another one on the left
abbrev pub with_left : ClientWorldSimulations → Simulation → ClientWorldSimulations
with_left w x = record { left = x; right = w.right; new = w.new; base = w.base; snapshots = w.snapshots; weight = w.weight; published = w.published }

-- and on the right
abbrev pub with_right : ClientWorldSimulations → Simulation → ClientWorldSimulations
with_right w x = record { left = w.left; right = x; new = w.new; base = w.base; snapshots = w.snapshots; weight = w.weight; published = w.published }

-- the worlds with another one at a side
unfoldable pub with_world : ClientWorldSimulations → ℕ → Simulation → ClientWorldSimulations
with_world w side s = cond (side == 0) (with_left w s) (with_right w s)

-- the worlds with another side new
abbrev pub with_new : ClientWorldSimulations → ℕ → ClientWorldSimulations
with_new w side =
    record { left = w.left; right = w.right; new = side_named side; base = w.base; snapshots = w.snapshots; weight = w.weight; published = w.published }

-- the worlds with another base buffer
abbrev pub with_base : ClientWorldSimulations → CommandBuffer → ClientWorldSimulations
with_base w b =
    record { left = w.left; right = w.right; new = w.new; base = b; snapshots = w.snapshots; weight = w.weight; published = w.published }

-- the worlds with other snapshots
abbrev pub with_snapshots : ClientWorldSimulations → Snapshots → ClientWorldSimulations
with_snapshots w s =
    record { left = w.left; right = w.right; new = w.new; base = w.base; snapshots = s; weight = w.weight; published = w.published }

-- the worlds with another weight
abbrev pub with_weight : ClientWorldSimulations → Float → ClientWorldSimulations
with_weight w t =
    record { left = w.left; right = w.right; new = w.new; base = w.base; snapshots = w.snapshots; weight = t; published = w.published }

-- the worlds with other published states
abbrev pub with_published : ClientWorldSimulations → Published → ClientWorldSimulations
with_published w p =
    record { left = w.left; right = w.right; new = w.new; base = w.base; snapshots = w.snapshots; weight = w.weight; published = p }

-- the stamp of a world's last completed frame: the midpoint of its buffer
abbrev pub world_stamp_of : Simulation → Timestamp
world_stamp_of s = s.commands.timestamp

-- the stamp of the old world, which is the client's
unfoldable pub old_stamp_of : ClientWorldSimulations → Timestamp
old_stamp_of w = world_stamp_of (world_of w (old_side_of w))

-- the stamp of the new world
unfoldable pub new_stamp_of : ClientWorldSimulations → Timestamp
new_stamp_of w = world_stamp_of (world_of w (new_side_of w))

-- no snapshot so far
abbrev pub no_snapshots : Snapshots
no_snapshots = record { queued = None; lastqueued = None; lastreceived = None }

-- nothing is published yet
abbrev pub nothing_published : Published
nothing_published = record { before = None; after = None; time = None }

-- two worlds and a base as a client starts with them: the left one is new, nothing is queued or published, and the weight is 1
abbrev pub starting_with : Simulation → Simulation → CommandBuffer → ClientWorldSimulations
starting_with l r b =
    record {
      left = l;
      right = r;
      new = Left;
      base = b;
      snapshots = no_snapshots;
      weight = one64;
      published = nothing_published;
    }

-- the worlds of a client whose first stamp is t; the base's midpoint starts at 0
unfoldable pub new_worlds_of : Timestamp → ClientWorldSimulations
new_worlds_of t = starting_with (new_world t) (new_world t) (laid [] (record { 0 = 0 }))

-- ---- scenes

-- the ledger of a side
unfoldable pub ledger_of : Scene → ℕ → Ledger
ledger_of s side = cond (side == 0) s.left s.right

-- the scene with other ledgers
abbrev pub with_ledgers : Scene → Ledger → Ledger → Scene
with_ledgers s l r = record { worlds = s.worlds; left = l; right = r; steps = s.steps }

-- the scene with another ledger at a side
unfoldable pub with_ledger : Scene → ℕ → Ledger → Scene
with_ledger s side l = cond (side == 0) (with_ledgers s l s.right) (with_ledgers s s.left l)

-- the scene with other worlds
abbrev pub with_worlds : Scene → ClientWorldSimulations → Scene
with_worlds s w = record { worlds = w; left = s.left; right = s.right; steps = s.steps }

-- the scene with another count of steps
abbrev pub with_steps : Scene → ℕ → Scene
with_steps s n = record { worlds = s.worlds; left = s.left; right = s.right; steps = n }

-- a world that was stepped or reset is put back at its side, with what it applied and left out in the side's ledger
unfoldable pub put_of : Scene → ℕ → Simulation → ℕ → ℕ → Scene
put_of s side w n k = with_ledger (with_worlds s (with_world s.worlds side w)) side (applies (ledger_of s side) n k)

-- ---- what happens to a scene, and the words that tell it

-- a scene, and the words of how it came about
pub record Played : Type 0 where
  pub scene : Scene
  pub words : List ℕ

-- nothing happens
abbrev pub still : Scene → Played
still s = record { scene = s; words = [] }

-- one thing happens, and then another
unfoldable pub and_then : Played → (Scene → Played) → Played
and_then p f = record { scene = (f p.scene).scene; words = p.words ++ (f p.scene).words }

-- something is done to the world of a side
unfoldable pub done_at : Scene → ℕ → Done → Played
done_at s side d = record { scene = put_of s side d.world d.applied d.leftout; words = d.words }

-- what happened, as the code leaves it: the scene s, and its words are on the tape
pub record Plays (p : Played) (was : Tape) (s : Scene) (now : Tape) : Type 0 where
  pub scene : s ≡ p.scene
  pub puts : PutsOn was p.words now
