-- `offset_after` meets its contract: no sample, and one. Assumes nothing.
use Rattle.std.proofs.Common.{sym, ap, ◌∙◌, Some}
use Rattle.std.specs.Prelude.{Option, Float}
use Rattle.clocksync.specs.Clock.{sample_of, named_of, settled_of}
use Rattle.clocksync.proofs.Samples.{offset_apart}
use Rattle.clocksync.proofs.Clock.offset_after.Goals as goal

pub returns-in-Some : goal.returns-in-Some
unfolding settled_of
returns-in-Some c =
    let a = c.args in
    c.offset_with.ensures ∙ sym (offset_apart a.settings a.self.now a.self.now.timer a.heard.id (Some c.in-Some.x))
    ∙ ap (λ (o : Option Float). (sample_of a.settings (named_of a.self.now a.heard.id) o).offset) (sym c.in-Some.is)
