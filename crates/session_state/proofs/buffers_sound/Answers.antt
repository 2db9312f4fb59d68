-- `buffers_sound` meets its contract: where both worlds' buffers are sound the base decides. `search` finds it too; it is answered so that a wrong program is
-- refused at an equation, and not at a limit of `search`. Assumes nothing.
use Rattle.std.proofs.Common.{◌≡◌, true, ◌∙◌, rules}
use Rattle.command.specs.Soundness.{sound_buffer}
use Rattle.client.specs.declared.ClientWorldSimulations.{ClientWorldSimulations}
use Rattle.session_state.specs.Sound.{buffers_sound}
use Rattle.session_state.proofs.buffers_sound.Goals as goal

base_decides : (w : ClientWorldSimulations) → sound_buffer w.left.commands ≡ true → sound_buffer w.right.commands ≡ true
    → sound_buffer w.base ≡ buffers_sound w
unfolding buffers_sound
base_decides w hl hr = rw (hl, hr)

pub returns-then-is_sound-2 : goal.returns-then-is_sound-2
returns-then-is_sound-2 c = c.is_sound-then-is_sound-2.ensures ∙ base_decides c.args.w.now (search rules) (search rules)
