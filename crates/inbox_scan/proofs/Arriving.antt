-- What the commands of an inbox leave of a scene that the snapshots after them turn on: the snapshots and the stamp of the old world. Assumes nothing.
use Rattle.std.proofs.Common.{◌≡◌, ℕ, Bool, true, false, List, [], ◌∷◌, refl, sym, ap, ◌∙◌, Ok, Err}
use Rattle.tape.specs.Sides.{is_left}
use Rattle.command.specs.Entries.{Entry, entry_of}
use Rattle.command.specs.declared.CommandBuffer.{CommandBuffer}
use Rattle.command.proofs.Ledger.{inserted_stamp}
use Rattle.simulation.specs.declared.Simulation.{Simulation}
use Rattle.simulation.specs.World.{scheduled_of}
use Rattle.client.specs.declared.ClientWorldSimulations.{ClientWorldSimulations}
use Rattle.client.specs.declared.Scene.{Scene}
use Rattle.client.specs.Sides.{old_side_of, world_of, world_stamp_of, old_stamp_of, with_left, with_right, with_base, with_snapshots}
use Rattle.client_receive.specs.Receive.{Received, received_of}
use Rattle.client_receive.proofs.Arrivals.{received_is}
use Rattle.inbox.specs.declared.Message.TheVariants.{Command, Snapshot, Clock}
use Rattle.inbox.specs.Inbox.{Reading, messages_of, some}
use Rattle.inbox.specs.Passes.{over}
use Rattle.inbox_passes.specs.Passes.{receive_one, received_in, noted_in}
use Rattle.inbox_scan.specs.Scan.{is_command, has_command, kept_in}
use Rattle.inbox_scan.proofs.Scanning.{noted_kept}

-- what was offered to a scene leaves the stamp of its old world, and its snapshots
record Offers (s t : Scene) : Type 0 where
  pub old : old_stamp_of t.worlds ≡ old_stamp_of s.worlds
  pub snapshots : t.worlds.snapshots ≡ s.worlds.snapshots

-- other worlds of the same stamps
stamp_by : (w : ClientWorldSimulations) (a b : Simulation) (base : CommandBuffer) (new : Bool) → is_left w.new ≡ new
    → world_stamp_of a ≡ world_stamp_of w.left → world_stamp_of b ≡ world_stamp_of w.right
    → old_stamp_of (with_left (with_right (with_base w base) b) a) ≡ old_stamp_of w
unfolding old_stamp_of old_side_of world_of
stamp_by w a b base true e ha hb = simp e hb
stamp_by w a b base false e ha hb = simp e ha

scheduled_stamp : (w : Simulation) (e : Entry) → world_stamp_of (scheduled_of w e).world ≡ world_stamp_of w
unfolding scheduled_of
scheduled_stamp w e = inserted_stamp w.commands e

-- a command
offers : (s : Scene) (e : Entry) → Offers s (received_of s e).scene
offers s e =
    let r = received_is s e refl refl refl refl refl refl in
    record {
      old = sym (ap (λ (x : Received). old_stamp_of x.scene.worlds) r)
          ∙ stamp_by s.worlds _ _ _ (is_left s.worlds.new) refl (scheduled_stamp s.worlds.left e) (scheduled_stamp s.worlds.right e);
      snapshots = sym (ap (λ (x : Received). x.scene.worlds.snapshots) r);
    }

-- messages
offers_over : (r : Received) (ms : List Reading) → Offers r.scene (over receive_one r ms).scene
offers_over r [] = record { old = refl; snapshots = refl }
offers_over r (Ok (Command t h) ∷ ms) =
    let k = offers_over (receive_one r (Ok (Command t h))) ms in
    let f = offers r.scene (entry_of t h) in
    record { old = k.old ∙ f.old; snapshots = k.snapshots ∙ f.snapshots }
offers_over r (Ok (Snapshot t h) ∷ ms) = offers_over r ms
offers_over r (Ok (Clock i t u) ∷ ms) = offers_over r ms
offers_over r (Err e ∷ ms) = offers_over r ms

-- the third pass after the second: the snapshots that the scan kept, by the worlds before both
pub received_noted : (words : List ℕ) (r : Received)
    → noted_in words (received_in words r).scene.worlds
    ≡ with_snapshots (received_in words r).scene.worlds (kept_in (old_stamp_of r.scene.worlds) words r.scene.worlds.snapshots)
unfolding received_in
received_noted words r =
    let k = offers_over r (messages_of words) in
    let w : ClientWorldSimulations = (over receive_one r (messages_of words)).scene.worlds in
    noted_kept words w ∙ (λ i. with_snapshots w (kept_in (k.old i) words (k.snapshots i)))

-- messages of which none is a command leave what was received
none_over : (r : Received) (ms : List Reading) → some is_command ms ≡ false → over receive_one r ms ≡ r
none_over r [] h = refl
none_over r (Ok (Command t k) ∷ ms) h = absurd (cc)
none_over r (Ok (Snapshot t k) ∷ ms) h = none_over r ms h
none_over r (Ok (Clock i s t) ∷ ms) h = none_over r ms h
none_over r (Err e ∷ ms) h = none_over r ms h

-- an inbox without a command: nothing is received
pub received_none : (words : List ℕ) (r : Received) → has_command words ≡ false → received_in words r ≡ r
unfolding has_command received_in
received_none words r h = none_over r (messages_of words) h
