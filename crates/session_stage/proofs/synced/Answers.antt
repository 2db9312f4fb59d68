-- `synced` meets its contract: the worlds are made at the server's time. `search` finds it too; it is answered so that a wrong program is refused at an
-- equation, and not at a limit of `search`. Assumes nothing.
use Rattle.std.proofs.Common.{◌≡◌, ℕ, Some, true, sym, ap, ◌∙◌}
use lib.Ieee.{Float, of_bits}
use Rattle.std.specs.Prelude.{cond}
use Rattle.timestamp.specs.Floats.{zero64}
use Rattle.timestamp.specs.declared.Timestamp.{Timestamp}
use Rattle.timestamp.specs.Timestamps.{bits_of}
use Rattle.timestamp.specs.FloatTimestamps.{from_seconds, stamp_of}
use Rattle.clocksync.specs.declared.Clock.{Clock}
use Rattle.clocksync.specs.Clock.{server_seconds_of, ready_of}
use Rattle.client.specs.declared.ClientWorldSimulations.{ClientWorldSimulations}
use Rattle.client.specs.Sides.{new_worlds_of}
use Rattle.session_state.specs.declared.Session.{Session}
use Rattle.session_state.specs.declared.Stage.TheVariants.{SyncingInitialState}
use Rattle.session_state.specs.Session.{session_with, with_clock}
use Rattle.session_stage.specs.Stage.{started_at, synced_of}
use Rattle.session_stage.proofs.synced.Goals as goal

started : (s : Session) (k : Clock) (seconds t : Float) {u : Timestamp} {w : ClientWorldSimulations}
    → ready_of k ≡ true → server_seconds_of k.offset seconds ≡ Some t → u.0 ≡ bits_of (stamp_of (from_seconds t s.settings.timestep))
    → w ≡ new_worlds_of u → session_with s SyncingInitialState k w zero64 ≡ synced_of s k seconds
unfolding synced_of
started s k seconds t hr ht hu hw =
    ap (λ (x : ClientWorldSimulations). session_with s SyncingInitialState k x zero64) (hw ∙ ap (λ (n : ℕ). new_worlds_of (record { 0 = n })) hu)
    ∙ sym (λ i. cond (hr i) (started_at s k (ht i)) (with_clock s k))

pub returns : goal.returns
unfolding of_bits
returns c =
    started c.args.session.now c.args.clock c.args.seconds c.in-Some.server (sym c.is_ready.ensures ∙ c.if-not-is_ready.false)
    (sym c.server_seconds.ensures ∙ c.in-Some.is) c.from_seconds-stamp.ensures c.new-session.ensures
