-- `connected` meets its contract: in the first stage there is no offset. `search` finds it too; it is answered so that a wrong program is refused at an
-- equation, and not at a limit of `search`. Assumes nothing.
use Rattle.std.proofs.Common.{◌≡◌, refl, sym, ap, ◌∙◌, rules}
use Rattle.std.specs.Prelude.{is_none}
use Rattle.clocksync.specs.declared.Clock.{Clock}
use Rattle.session_state.specs.declared.Stage.{Stage}
use Rattle.session_state.specs.declared.Stage.TheVariants.{SyncingClock}
use Rattle.session_state.specs.Sound.{connected_of}
use Rattle.session_state.proofs.connected.Goals as goal

syncing : (k : Clock) → is_none k.offset ≡ connected_of SyncingClock k
unfolding connected_of
syncing k = refl

pub returns-in-SyncingClock : goal.returns-in-SyncingClock
returns-in-SyncingClock c =
    let h : c.is_none.result ≡ is_none c.args.c.offset = search rules in
    h ∙ syncing c.args.c ∙ ap (λ (s : Stage). connected_of s c.args.c) (sym c.in-SyncingClock.is)
