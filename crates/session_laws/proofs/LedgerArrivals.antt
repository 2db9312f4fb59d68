-- Both ledgers stay in balance through commands and snapshots that arrive. Assumes nothing.
use mathlib.Core.Path.{refl}
use Prim.Native.Nat.{ℕ, zero, suc, ◌+◌, ◌^◌, ◌≤◌, ◌<◌}
use native.Mathlib.Omega.{arith}
use lib.ListN.{length}
use Rattle.timestamp.specs.declared.Timestamp.{Timestamp}
use Rattle.command.specs.declared.CommandBuffer.{CommandBuffer}
use Rattle.command.specs.Entries.{Entry}
use Rattle.command.specs.declared.Outcome.{Outcome}
use Rattle.command.specs.declared.Outcome.TheVariants.{Taken, OutOfRange, Full}
use Rattle.command.specs.Buffer.{held, inserted_of, taken_by}
use Rattle.command.proofs.Ledger.{inserted_ledger, inserted_few}
use Rattle.simulation.specs.World.{scheduled_of}
use Rattle.client.specs.declared.ClientWorldSimulations.{ClientWorldSimulations}
use Rattle.client.specs.declared.Scene.{Scene}
use Rattle.client.specs.Sides.{new_side_of, old_side_of, world_of, with_world, ledger_of, with_ledger}
use Rattle.client_receive.specs.Receive.{offered_base, offered_side, received_of, notes_of}
use Rattle.session_laws.proofs.LedgerBooks.{books_more, books_takes}
use Rattle.client_frame.proofs.Induction.{new_below, old_below}
use Rattle.session_laws.proofs.LedgerSides.{Kept, kept_more}
use Rattle.session_laws.proofs.LedgerFrames.{SameBuffers}

-- an insertion takes one or none
taken_one : (o : Outcome) → taken_by o ≤ 1
taken_one Taken = omega arith
taken_one OutOfRange = omega arith
taken_one Full = omega arith

-- a command is offered to the base
base_kept : {x h n k : ℕ} (s : Scene) (e : Entry) → Kept x h n k s → Kept x h n k (offered_base s e).scene
unfolding offered_base ledger_of world_of
base_kept s e c = record { books = c.books; base = inserted_few s.worlds.base e c.base }

-- a command is offered to the world of a side
pub offered_kept : {h n k : ℕ} (x side : ℕ) (s : Scene) (e : Entry) → x < 2 → side < 2 → n + 1 < 2 ^ 64 → Kept x h n k s
    → Kept x h (n + 1) k (offered_side s side e).scene
unfolding offered_side scheduled_of ledger_of with_ledger world_of with_world
offered_kept zero zero s e p q z c =
    let b : CommandBuffer = s.worlds.left.commands in
    record {
      books = books_takes s.left (taken_by (inserted_of b e).outcome) (length (held (inserted_of b e).buffer)) z
          (taken_one (inserted_of b e).outcome) (inserted_ledger b e) c.books;
      base = c.base;
    }
offered_kept (suc zero) (suc zero) s e p q z c =
    let b : CommandBuffer = s.worlds.right.commands in
    record {
      books = books_takes s.right (taken_by (inserted_of b e).outcome) (length (held (inserted_of b e).buffer)) z
          (taken_one (inserted_of b e).outcome) (inserted_ledger b e) c.books;
      base = c.base;
    }
offered_kept zero (suc zero) s e p q z c = record { books = books_more (omega arith) c.books; base = c.base }
offered_kept (suc zero) zero s e p q z c = record { books = books_more (omega arith) c.books; base = c.base }
offered_kept zero (suc (suc side)) s e p q z c = absurd (omega arith)
offered_kept (suc zero) (suc (suc side)) s e p q z c = absurd (omega arith)
offered_kept (suc (suc x)) side s e p q z c = absurd (omega arith)

-- a command arrives
pub received_kept : {h n k : ℕ} (x : ℕ) (s : Scene) (e : Entry) → x < 2 → n + 2 < 2 ^ 64 → Kept x h n k s → Kept x h (n + 2) k (received_of s e).scene
unfolding received_of
received_kept x s e p z c =
    let r : Scene = (offered_base s e).scene in
    let t : Scene = (offered_side r (old_side_of s.worlds) e).scene in
    kept_more (omega arith)
    (offered_kept x (new_side_of s.worlds) t e p (new_below s.worlds) (omega arith)
    (offered_kept x (old_side_of s.worlds) r e p (old_below s.worlds) (omega arith) (base_kept s e c)))

-- a snapshot arrives: the buffers stay
pub notes_alike : (w : ClientWorldSimulations) (t : Timestamp) (i : ℕ) → SameBuffers w (notes_of w t i)
unfolding notes_of
notes_alike w t i = record { left = refl; right = refl; base = refl }
