-- `weight_sound` meets its contract: where the stamps differ the weight is 0. `search` finds it too; it is answered so that a wrong program is refused at an
-- equation, and not at a limit of `search`. Assumes nothing.
use Rattle.std.proofs.Common.{◌≡◌, false, Bool, sym, ap, ◌∙◌}
use lib.Ieee.{of_bits}
use Rattle.std.specs.Prelude.{cond, eqb}
use Rattle.std.specs.Float.Ieee.{eq}
use Rattle.timestamp.specs.Floats.{zero64, one64, between}
use Rattle.timestamp.specs.declared.Timestamp.{Timestamp}
use Rattle.client.specs.declared.ClientWorldSimulations.{ClientWorldSimulations}
use Rattle.client.specs.Sides.{old_stamp_of, new_stamp_of}
use Rattle.session_state.specs.Sound.{weight_sound}
use Rattle.session_state.proofs.weight_sound.Goals as goal

stamps_differ : (w : ClientWorldSimulations) {a b : Timestamp} → a ≡ old_stamp_of w → b ≡ new_stamp_of w → eqb a.0 b.0 ≡ false
    → eq w.weight zero64 ≡ weight_sound w
unfolding weight_sound
stamps_differ w ha hb h =
    ap (λ (d : Bool). cond d (between zero64 one64 w.weight) (eq w.weight zero64)) (sym ((λ i. eqb (sym ha i).0 (sym hb i).0) ∙ h))

pub returns : goal.returns
unfolding of_bits
returns c =
    stamps_differ c.args.w.now c.last_completed_timestamp.ensures c.new_timestamp.ensures (sym c.eq.ensures ∙ c.if-eq.false)
