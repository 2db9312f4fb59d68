-- A snapshot is loaded: document 01, "src/client.rs". The base is drained to its stamp, copied into a side, and that side is the new one.
-- Definitions only. Assumes nothing.
use Rattle.std.specs.Prelude.{ℕ, [], ◌∷◌, None}
use Rattle.timestamp.specs.Floats.{zero64}
use Rattle.timestamp.specs.declared.Timestamp.{Timestamp}
use Rattle.tape.specs.Words.{snapshot_word}
use Rattle.command.specs.declared.CommandBuffer.{CommandBuffer}
use Rattle.command.specs.Buffer.{rest_of}
use Rattle.simulation.specs.World.{load_of, Load}
use Rattle.client.specs.declared.ClientWorldSimulations.{ClientWorldSimulations}
use Rattle.client.specs.declared.Scene.{Scene}
use Rattle.client.specs.Ledgers.{loads}
use Rattle.client.specs.Sides.{world_of, with_world, with_weight, with_worlds, with_ledger, ledger_of, with_base, with_new, with_snapshots, Played}

-- the worlds as a load into a side leaves them beside the world that it loads: that side is new, nothing is queued, the weight is 0, and the base is another
unfoldable pub readied_with : ClientWorldSimulations → ℕ → CommandBuffer → ClientWorldSimulations
readied_with w side b =
    with_base
    (with_new
    (with_weight
    (with_snapshots w (record { queued = None; lastqueued = w.snapshots.lastqueued; lastreceived = w.snapshots.lastreceived }))
    zero64)
    side)
    b

-- a load l is put at a side beside the base b, and counted in the side's ledger; h is the snapshot's handle
unfoldable pub loaded_at : Scene → ℕ → CommandBuffer → ℕ → Load → Played
loaded_at s side b h l =
    record {
      scene = with_ledger (with_worlds s (with_world (readied_with s.worlds side b) side l.world)) side
          (loads (ledger_of s side) l.copied l.replaced l.leftout);
      words = snapshot_word side h ∷ [];
    }

-- a snapshot with the stamp t and the handle h is loaded into a side: the base is drained to it before it is copied
unfoldable pub loaded_of : Scene → ℕ → Timestamp → ℕ → Played
loaded_of s side t h = loaded_at s side (rest_of s.worlds.base t) h (load_of (world_of s.worlds side) (rest_of s.worlds.base t) t)
