-- The theorem about any list of calls that each obey the law of one call, by one induction. No kind of call is named here. Assumes nothing.
use mathlib.Core.Bool.{true}
use mathlib.Core.List.{List, [], ◌∷◌, ◌++◌}
use mathlib.Core.Path.{◌≡◌, refl, ap, subst, ◌∙◌}
use Prim.Native.Nat.{ℕ, ◌+◌, ◌-◌, ◌*◌, ◌%◌, ◌<◌, ◌≤◌}
use native.Mathlib.Omega.{arith}
use lib.ListN.{length, replicate}
use Rattle.tape.specs.Words.{steps_on, commands_on, snapshot_words}
use Rattle.tape.proofs.Counting.{steps_on-append, steps_on_zeros, steps_both}
use Rattle.settings.specs.declared.Settings.{Settings}
use Rattle.client.specs.Sides.{old_stamp_of}
use Rattle.session_laws.specs.Soundness.{FloatsFit}
use Rattle.session_laws.proofs.TraceSteps.{lag_in}
use Rattle.session_laws.proofs.TraceReading.{keeps_self}
use Rattle.session_laws.proofs.LedgerCalls.{Settles}
use Rattle.session_state.specs.declared.Session.{Session}
use Rattle.session_state.specs.Sound.{sound_of}
use Rattle.demand.specs.Events.{Event}
use Rattle.demand.specs.Calls.{Call, Outcome, outcome_of, happened, session_of, frames_of, catch_ups_of, ledger_in, marked_of, load_words_of, marked_on, end_of}
use Rattle.demand.specs.Calls.{trace_of, sum}
use Rattle.demand.specs.Demand.{frames_in, distances_in, load_count_in, words_in, AllRuled, AllSet, old_steps, new_steps, Tapes, AllSound, Balanced, Told}
use Rattle.demand.proofs.TraceLaw.{trace_most, catch_up_lem}
use Rattle.demand.proofs.TraceCounts.{trace_on, trace_old, steps_law, new-append, old-append}
use Rattle.demand.proofs.TraceLoads.{tape_loads, loads_join}
use Rattle.demand.proofs.OneCall.{Standing, Traced, Happens, OneCall, none_traced, joins}

-- each call of a list, handed the session that the call before it returned, obeys the law of one call
abbrev pub Lawful : Session → List Call → Type 0
Lawful s [] = Unit {0}
Lawful s (k ∷ cs) = OneCall s (outcome_of k) (happened s k) × Lawful (session_of k) cs

-- every session on the way is sound, whether worlds exist or not
pub all_sound : (s : Session) (cs : List Call) → FloatsFit s → sound_of s ≡ true → Lawful s cs → AllSound cs
all_sound s [] f e a = tt
all_sound s (k ∷ cs) f e a = (a.0.sound f e, all_sound (session_of k) cs (a.0.floats f) (a.0.sound f e) a.1)

-- what is carried along a list
pub record Holds (s : Session) (cs : List Call) : Type 0 where
  pub traced : Traced s (end_of s cs) (sum frames_of cs) (sum catch_ups_of cs) (trace_of s cs)
  pub settings : AllSet s.settings cs
  pub rules : AllRuled s cs
  pub tapes : Tapes s cs
  pub marks : sum marked_of cs ≡ sum (marked_on 0) cs + sum (marked_on 1) cs
  pub sides : (x : ℕ) → x < 2 → sum (marked_on x) cs ≡ old_steps x (trace_of s cs) + new_steps x (trace_of s cs)
  pub loads : sum load_words_of cs ≡ load_count_in (trace_of s cs)
  pub ledgers : (x : ℕ) → x < 2 → Balanced x s cs

-- no call
none_holds : (s : Session) → Standing s → Holds s []
none_holds s h =
    record {
      traced = none_traced s s (keeps_self s) h;
      settings = tt;
      rules = tt;
      tapes = tt;
      marks = refl;
      sides = λ x hx. refl;
      loads = refl;
      ledgers = λ x hx. record { balance = omega arith; applied = refl };
    }

-- the step words of a side on a tape of what happened
words_on : (x : ℕ) (es : List Event) (n : ℕ) → x < 2 → steps_on x (words_in es ++ replicate n 0) ≡ old_steps x es + new_steps x es
words_on x es n h = omega (arith, steps_on-append x (words_in es) (replicate n 0), steps_on_zeros x n, trace_on x es h)

-- one call more
more_holds : (s : Session) (k : Call) (cs : List Call) → Standing s → OneCall s (outcome_of k) (happened s k) → Holds (session_of k) cs → Holds s (k ∷ cs)
more_holds s k cs h one r =
    let t : List Event = happened s k in
    let u : List Event = trace_of (session_of k) cs in
    let a : Happens s (outcome_of k) t = one.happens h in
    let zeros : ℕ = (outcome_of k).room - length (words_in t) in
    record {
      traced = joins t u a.traced r.traced;
      settings = (a.traced.settings, subst (λ (c : Settings). AllSet c cs) a.traced.settings r.settings);
      rules = (a.rules, r.rules);
      tapes = (a.tape, r.tapes);
      marks = omega (arith, steps_both (outcome_of k).tape, r.marks);
      sides = λ x hx.
          omega (arith, ap (steps_on x) a.tape ∙ words_on x t zeros hx, r.sides x hx, old-append x t u, new-append x t u);
      loads = omega (arith, ap snapshot_words a.tape ∙ tape_loads t zeros, r.loads, loads_join t u);
      ledgers = λ x hx.
          let b : Settles x s (session_of k) (ledger_in x (outcome_of k)) (commands_on x (outcome_of k).tape) = one.ledgers x hx h.exists in
          record { balance = omega (arith, b.balance, (r.ledgers x hx).balance); applied = omega (arith, b.applied, (r.ledgers x hx).applied) };
    }

standing_on : (s : Session) (o : Outcome) (es : List Event) → FloatsFit s → Standing s → OneCall s o es → Standing o.session
standing_on s o es f h one =
    let t : Traced s o.session o.frames o.caught es = (one.happens h).traced in
    record { sound = one.sound f h.sound; exists = t.exists; fitting = t.leads.fitting }

-- the list
pub holds : (s : Session) (cs : List Call) → FloatsFit s → Standing s → Lawful s cs → Holds s cs
holds s [] f h a = none_holds s h
holds s (k ∷ cs) f h a = more_holds s k cs h a.0 (holds (session_of k) cs (a.0.floats f) (standing_on s (outcome_of k) (happened s k) f h a.0) a.1)

-- all of demand 3
pub told : (s : Session) (cs : List Call) → FloatsFit s → Standing s → Lawful s cs → Told s cs
told s cs f h a =
    let m : ℕ = s.settings.m in
    let b : ℕ = lag_in s.worlds in
    let es : List Event = trace_of s cs in
    let r : Holds s cs = holds s cs f h a in
    let t : Traced s (end_of s cs) (sum frames_of cs) (sum catch_ups_of cs) es = r.traced in
    let x : sum (marked_on 0) cs ≡ old_steps 0 es + new_steps 0 es = r.sides 0 (omega arith) in
    let y : sum (marked_on 1) cs ≡ old_steps 1 es + new_steps 1 es = r.sides 1 (omega arith) in
    record {
      sound = all_sound s cs f h.sound a;
      settings = r.settings;
      rules = r.rules;
      frames = t.frames;
      old = subst (λ n. (old_stamp_of (end_of s cs).worlds).0 ≡ ((old_stamp_of s.worlds).0 + n + distances_in es) % 65536) t.frames t.leads.old;
      marks = omega (arith, r.marks, x, y, trace_old es, t.frames, t.caught);
      loads = r.loads;
      sides = r.sides;
      caught = t.caught;
      steps = steps_law es;
      most = subst (λ n. sum catch_ups_of cs ≤ m * n) t.frames (subst (λ n. n ≤ m * frames_in es) t.caught (trace_most m b es t.leads.linked));
      tapes = r.tapes;
      walk = t.leads.walk;
      ledgers = r.ledgers;
      law = catch_up_lem m b es t.leads.linked;
    }
