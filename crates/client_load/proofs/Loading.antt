-- What the code of a load comes to, over plain values. Assumes nothing.
use Rattle.std.proofs.Common.{◌≡◌, ℕ, ap, ◌∙◌}
use Rattle.tape.specs.declared.Side.{Side}
use Rattle.tape.specs.declared.Side.TheVariants.{Left, Right}
use Rattle.tape.specs.declared.Tape.{Tape}
use Rattle.tape.specs.Sides.{side_number}
use Rattle.timestamp.specs.declared.Timestamp.{Timestamp}
use Rattle.command.specs.declared.CommandBuffer.{CommandBuffer}
use Rattle.command.specs.Buffer.{Drained, rest_of, drained_of}
use Rattle.simulation.specs.declared.Simulation.{Simulation}
use Rattle.simulation.specs.declared.Loaded.{Loaded}
use Rattle.simulation.specs.World.{load_of, Loads}
use Rattle.std.specs.Prelude.{None}
use Rattle.timestamp.specs.Floats.{zero64}
use Rattle.client.specs.declared.ClientWorldSimulations.{ClientWorldSimulations}
use Rattle.client.specs.declared.Ledger.{Ledger}
use Rattle.client.specs.declared.Scene.{Scene}
use Rattle.client.specs.Ledgers.{loads}
use Rattle.client.specs.Sides.{world_of, with_world, with_left, with_right, with_ledger, ledger_of, Plays}
use Rattle.client_load.specs.Load.{readied_with, loaded_at, loaded_of}
use Rattle.client.proofs.Happening.{plays_as}

-- the worlds as the code readies them, the side being no number
unfoldable pub readied : ClientWorldSimulations → Side → CommandBuffer → ClientWorldSimulations
readied w side b =
    record {
      left = w.left;
      right = w.right;
      new = side;
      base = b;
      snapshots = record { queued = None; lastqueued = w.snapshots.lastqueued; lastreceived = w.snapshots.lastreceived };
      weight = zero64;
      published = w.published;
    }

-- a load from the base b, which was drained up to the snapshot, is counted in the side's ledger
module _ (s : Scene) (side : Side) (t : Timestamp) (h : ℕ) {b : CommandBuffer} {n : ℕ}
    (drained : ◌≡◌ {A = Drained} (record { buffer = b; count = n }) (drained_of s.worlds.base t))
    {was now : Tape} {w : Simulation} {r : Loaded} {l : Ledger} where
  pub load_left : side ≡ Left → Loads (load_of s.worlds.left b t) (side_number side) h was w r now → l ≡ loads s.left r.copied r.replaced r.leftout
      → Plays (loaded_of s (side_number side) t h) was
      (record { worlds = with_left (readied s.worlds side b) w; left = l; right = s.right; steps = s.steps }) now
  unfolding loaded_of loaded_at readied readied_with with_world with_ledger ledger_of world_of
  load_left z k e =
      let c : b ≡ rest_of s.worlds.base t = ap (λ (q : Drained). q.buffer) drained in
      plays_as (λ i. loaded_at s (side_number side) (c i) h (load_of (world_of s.worlds (side_number side)) (c i) t))
      (rw z
      (record {
        scene = λ i. record {
          worlds = with_left (readied_with s.worlds 0 b) (k.world i);
          left = (e ∙ (λ j. loads s.left (k.copied j) (k.replaced j) (k.leftout j))) i;
          right = s.right;
          steps = s.steps;
        };
        puts = rw z at k.puts;
      }))

  pub load_right : side ≡ Right → Loads (load_of s.worlds.right b t) (side_number side) h was w r now → l ≡ loads s.right r.copied r.replaced r.leftout
      → Plays (loaded_of s (side_number side) t h) was
      (record { worlds = with_right (readied s.worlds side b) w; left = s.left; right = l; steps = s.steps }) now
  unfolding loaded_of loaded_at readied readied_with with_world with_ledger ledger_of world_of
  load_right z k e =
      let c : b ≡ rest_of s.worlds.base t = ap (λ (q : Drained). q.buffer) drained in
      plays_as (λ i. loaded_at s (side_number side) (c i) h (load_of (world_of s.worlds (side_number side)) (c i) t))
      (rw z
      (record {
        scene = λ i. record {
          worlds = with_right (readied_with s.worlds 1 b) (k.world i);
          left = s.left;
          right = (e ∙ (λ j. loads s.right (k.copied j) (k.replaced j) (k.leftout j))) i;
          steps = s.steps;
        };
        puts = rw z at k.puts;
      }))
