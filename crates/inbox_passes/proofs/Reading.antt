-- The third pass over an inbox, the worlds left aside. Assumes nothing.
use Rattle.std.proofs.Common.{◌≡◌, ℕ, List, [], ◌∷◌, refl, Ok, Err}
use Rattle.inbox.specs.declared.Message.TheVariants.{Command, Snapshot, Clock}
use Rattle.inbox.specs.Inbox.{Reading, messages_of}
use Rattle.inbox.specs.Passes.{over}
use Rattle.client.specs.declared.ClientWorldSimulations.{ClientWorldSimulations}
use Rattle.client.specs.Sides.{old_side_of, world_of, old_stamp_of, with_snapshots}
use Rattle.client_receive.specs.Receive.{notes_of}
use Rattle.inbox_passes.specs.Passes.{note_one, noted_in, keep_one}

-- the messages change the snapshots of the worlds alone, so that the old stamp stays as it is
note_over : (w : ClientWorldSimulations) (ms : List Reading) → over note_one w ms ≡ with_snapshots w (over (keep_one (old_stamp_of w)) w.snapshots ms)
unfolding notes_of old_stamp_of old_side_of world_of
note_over w [] = refl
note_over w (Ok (Command t h) ∷ ms) = note_over w ms
note_over w (Ok (Snapshot t h) ∷ ms) = note_over (notes_of w t h) ms
note_over w (Ok (Clock i t u) ∷ ms) = note_over w ms
note_over w (Err e ∷ ms) = note_over w ms

-- the snapshots that the pass gives, put back: the third pass
pub noted_kept : (words : List ℕ) (w : ClientWorldSimulations)
    → noted_in words w ≡ with_snapshots w (over (keep_one (old_stamp_of w)) w.snapshots (messages_of words))
unfolding noted_in
noted_kept words w = note_over w (messages_of words)
