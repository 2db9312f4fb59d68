-- What an update leaves of the session: its settings, and, where it is refused, all of it. Assumes nothing.
use mathlib.Core.Path.{◌≡◌, refl, sym, ◌∙◌}
use mathlib.Core.Bool.{Bool, true, false, cond}
use mathlib.Core.List.{List}
use Prim.Native.Nat.{ℕ}
use lib.Ieee.{Float}
use Rattle.std.specs.Prelude.{Option, Some, None, Ok, Err}
use Rattle.refusals.specs.declared.Refusal.{Refusal}
use Rattle.refusals.specs.Refusals.{Verdict, accepted}
use Rattle.refusals.proofs.Accepted.{turned_down}
use Rattle.clocksync.specs.declared.Clock.{Clock}
use Rattle.clocksync.specs.Clock.{ready_of, server_seconds_of}
use Rattle.fixed_timestepper.specs.TimeKeeper.{Run}
use Rattle.session_state.specs.declared.Session.{Session}
use Rattle.session_state.specs.Session.{has_worlds, with_clock}
use Rattle.session_stage.specs.Stage.{synced_of, started_at}
use Rattle.session_answers.specs.Answers.{Reply, unless_refused, refused_with, accepted_of}
use Rattle.session.specs.Calls.{clock_after, clock_update_of, concluded_of}
use Rattle.session.specs.Calls.{worlds_update_of, update_by, update_of}

-- a reply keeps the settings of the session s, and where it refuses s itself
pub record Keeps (s : Session) (a : Reply) : Type 0 where
  pub settings : a.session.settings ≡ s.settings
  pub back : (e : Refusal) → a.refusal ≡ Err e → a.session ≡ s

-- one that accepts has its settings to keep
accepted_keeps : (s : Session) {a : Reply} → a.refusal ≡ accepted → a.session.settings ≡ s.settings → Keeps s a
accepted_keeps s h k = record { settings = k; back = λ e x. turned_down e (sym x ∙ h) }

-- refused, or not
unless_keeps : (s : Session) (len : ℕ) (v : Verdict) {a : Reply} → Keeps s a → Keeps s (unless_refused v s len a)
unfolding refused_with
unless_keeps s len (Ok x) h = h
unless_keeps s len (Err e) h = record { settings = refl; back = λ f k. refl }

-- a session after an update in the first stage has its settings
synced_settings : (s : Session) (c : Clock) (seconds : Float) → (synced_of s c seconds).settings ≡ s.settings
unfolding synced_of
synced_settings s c seconds = go (ready_of c) (server_seconds_of c.offset seconds)
  where
    go : (x : Bool) (t : Option Float) → (cond x (started_at s c t) (with_clock s c)).settings ≡ s.settings
    go true None = refl
    go true (Some t) = refl
    go false t = refl

module _ (s : Session) (delta seconds : Float) (inbox : List ℕ) (len : ℕ) where
  concluded_keeps : (c : Clock) (request : Bool) (r : Run) → Keeps s (concluded_of s c request r len)
  unfolding concluded_of accepted_of
  concluded_keeps c request r = unless_keeps s len _ (accepted_keeps s refl refl)

  by_keeps : (x : Bool) → Keeps s (update_by x s delta seconds inbox len)
  unfolding worlds_update_of clock_update_of
  by_keeps true = unless_keeps s len _ (concluded_keeps _ _ _)
  by_keeps false = unless_keeps s len _ (accepted_keeps s refl (synced_settings s (clock_after s delta seconds inbox) seconds))

  pub update_keeps : Keeps s (update_of s delta seconds inbox len)
  unfolding update_of
  update_keeps = unless_keeps s len _ (by_keeps (has_worlds s.stage))
