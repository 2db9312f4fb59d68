-- What the code of an update's end comes to, over plain values. Assumes nothing.
use mathlib.Core.Path.{◌≡◌, ap, ◌∙◌}
use Prim.Native.Nat.{ℕ}
use lib.Ieee.{Float}
use Rattle.timestamp.specs.declared.Timestamp.{Timestamp}
use Rattle.command.specs.Buffer.{Moved, moved_of}
use Rattle.std.specs.Prelude.{Option}
use Rattle.client.specs.declared.Published.{Published}
use Rattle.client.specs.declared.ClientWorldSimulations.{ClientWorldSimulations}
use Rattle.client.specs.Sides.{old_stamp_of}
use Rattle.client_publish.specs.Ending.{displayed_of, revised_of, ending_with, post_update_of}

-- what an update ends with
pub post_is : (w : ClientWorldSimulations) (t : Float) (lag : ℕ) {old : Timestamp} {p : Published} {m : Moved} {l : Option Timestamp}
    → old ≡ old_stamp_of w → p ≡ displayed_of w.published t → m ≡ moved_of w.base old → l ≡ revised_of w.snapshots.lastqueued old lag
    → ending_with w m.buffer l p ≡ post_update_of w t lag
unfolding post_update_of
post_is w t lag ho hp hm hl =
    λ i. ending_with w ((hm ∙ ap (moved_of w.base) ho) i).buffer ((hl ∙ ap (λ (x : Timestamp). revised_of w.snapshots.lastqueued x lag) ho) i) (hp i)
