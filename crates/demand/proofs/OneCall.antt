-- What the theorem needs of one call, whatever its kind. Assumes nothing.
use mathlib.Core.Bool.{true}
use mathlib.Core.List.{List, [], ◌++◌}
use mathlib.Core.Path.{◌≡◌, refl, ap, sym, subst, ◌∙◌}
use Prim.Native.Nat.{ℕ, ◌+◌, ◌-◌, ◌<◌}
use native.Mathlib.Omega.{arith}
use lib.ListN.{length, replicate}
use Rattle.tape.specs.Words.{commands_on}
use Rattle.settings.specs.declared.Settings.{Settings}
use Rattle.client.specs.declared.Ledger.{Ledger}
use Rattle.session_laws.specs.Soundness.{FloatsFit}
use Rattle.session_laws.proofs.TraceFrames.{QueuedFits, Fitting}
use Rattle.session_laws.proofs.TraceArrivals.{alike_fitting}
use Rattle.session_laws.proofs.TraceReading.{Keeps}
use Rattle.session_laws.proofs.LedgerCalls.{Settles}
use Rattle.fixed_timestepper.specs.TimeKeeper.{rules_of}
use Rattle.session_state.specs.declared.Session.{Session}
use Rattle.session_state.specs.Sound.{sound_of}
use Rattle.demand.specs.Events.{Event}
use Rattle.demand.specs.Calls.{Outcome, quiet, ledger_in}
use Rattle.demand.specs.Demand.{frames_in, words_in, Ruled, new_steps}
use Rattle.session_state.specs.Session.{has_worlds}
use Rattle.demand.proofs.TraceCounts.{frames-append, new-append}
use Rattle.demand.proofs.TraceRuns.{Leads, leads_alike, leads_then}

-- a session whose worlds a call may move: it is sound, its worlds exist, and their stamps have 16 bits
pub record Standing (s : Session) : Type 0 where
  pub sound : sound_of s ≡ true
  pub exists : has_worlds s.stage ≡ true
  pub fitting : Fitting s.worlds

-- the trace es leads from the session s to the session e in f frames, with k steps to catch up
pub record Traced (s e : Session) (f k : ℕ) (es : List Event) : Type 0 where
  pub settings : e.settings ≡ s.settings
  pub exists : has_worlds e.stage ≡ true
  pub leads : Leads s.settings.m s.worlds e.worlds es
  pub frames : frames_in es ≡ f
  pub caught : new_steps 0 es + new_steps 1 es ≡ k

-- the trace es tells what a call came to that was handed the session s
pub record Happens (s : Session) (o : Outcome) (es : List Event) : Type 0 where
  pub traced : Traced s o.session o.frames o.caught es
  pub rules : Ruled (rules_of s.settings) es
  pub tape : o.tape ≡ words_in es ++ replicate (o.room - length (words_in es)) 0

-- the law of one call: it keeps floats and soundness, of any session; where worlds exist its trace tells it, and both its ledgers balance
pub record OneCall (s : Session) (o : Outcome) (es : List Event) : Type 0 where
  pub floats : FloatsFit s → FloatsFit o.session
  pub sound : FloatsFit s → sound_of s ≡ true → sound_of o.session ≡ true
  pub happens : Standing s → Happens s o es
  pub ledgers : (x : ℕ) → x < 2 → has_worlds s.stage ≡ true → Settles x s o.session (ledger_in x o) (commands_on x o.tape)

-- ---- traces of sessions

-- nothing happens, and settings, stage, sides, stamps and weight are kept
pub none_traced : (s e : Session) → Keeps s e → Standing s → Traced s e 0 0 []
none_traced s e k h =
    record {
      settings = k.settings;
      exists = ap has_worlds k.stage ∙ h.exists;
      leads = leads_alike k.alike (alike_fitting k.alike (subst QueuedFits (sym k.queued) h.fitting.queued) h.fitting);
      frames = refl;
      caught = refl;
    }

-- two traces, the second from where the first leads
pub joins : {s m e : Session} {f g k n : ℕ} (t u : List Event) → Traced s m f k t → Traced m e g n u → Traced s e (f + g) (k + n) (t ++ u)
joins {s} {m} {e} t u a b =
    record {
      settings = b.settings ∙ a.settings;
      exists = b.exists;
      leads = leads_then t u a.leads (subst (λ (c : Settings). Leads c.m m.worlds e.worlds u) a.settings b.leads);
      frames = frames-append t u ∙ (λ i. a.frames i + b.frames i);
      caught = omega (arith, a.caught, b.caught, new-append 0 t u, new-append 1 t u);
    }

-- ---- calls in which nothing happens

-- what such a call came to
pub quiet_happens : (s e : Session) (l r : Ledger) → Keeps s e → Standing s → Happens s (quiet e l r) []
quiet_happens s e l r k h = record { traced = none_traced s e k h; rules = tt; tape = refl }
