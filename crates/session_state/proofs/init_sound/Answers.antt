-- `init_sound` meets its contract: where the old world is initialised the new one decides. `search` finds it too; it is answered so that a wrong program is
-- refused at an equation, and not at a limit of `search`. Assumes nothing.
use Rattle.std.proofs.Common.{◌≡◌, ℕ, Bool, true, not, sym, ap, ◌∙◌}
use Rattle.std.specs.Prelude.{cond}
use Rattle.simulation.specs.declared.Simulation.{Simulation}
use Rattle.client.specs.declared.ClientWorldSimulations.{ClientWorldSimulations}
use Rattle.client.specs.Sides.{new_side_of, old_side_of, world_of}
use Rattle.session_state.specs.Sound.{init_sound}
use Rattle.session_state.proofs.init_sound.Goals as goal

sound_by : (w : ClientWorldSimulations) {i j : ℕ} {old new : Simulation}
    → i ≡ old_side_of w → old ≡ world_of w i → j ≡ new_side_of w → new ≡ world_of w j → cond old.init new.init true ≡ init_sound w
unfolding init_sound
sound_by w hi ho hj hn = λ k. cond ((ho ∙ ap (world_of w) hi) k).init ((hn ∙ ap (world_of w) hj) k).init true

pub returns-then-not-old : goal.returns-then-not-old
returns-then-not-old c =
    ap not c.if-not-old.true ∙ sym (ap (λ (b : Bool). cond b c.get_side-new.result.now.init true) c.if-not-old.true)
    ∙ sound_by c.args.w.now c.old_side.ensures c.get_side-old.ensures c.new_side.ensures c.get_side-new.ensures

pub returns-else-not-old : goal.returns-else-not-old
returns-else-not-old c =
    sym (ap (λ (b : Bool). cond b c.get_side-new.result.now.init true) c.if-not-old.false)
    ∙ sound_by c.args.w.now c.old_side.ensures c.get_side-old.ensures c.new_side.ensures c.get_side-new.ensures
