-- The law of one call, of an update, refused or accepted. Assumes nothing.
use mathlib.Core.Bool.{Bool}
use mathlib.Core.List.{List, [], ◌++◌}
use mathlib.Core.Path.{◌≡◌, refl, ap, sym, subst, ◌∙◌}
use Prim.Native.Nat.{ℕ, ◌-◌, ◌≤◌}
use native.Mathlib.Omega.{arith}
use Rattle.refusals.specs.declared.Refusal.{Refusal}
use lib.ListN.{length, replicate}
use lib.Ieee.{Float}
use Rattle.refusals.specs.declared.Stop.TheVariants.{Done}
use Rattle.timestamp.proofs.Basics.{not_true}
use Rattle.fixed_timestepper.specs.TimeKeeper.{Run}
use Rattle.session_state.specs.declared.Session.{Session}
use Rattle.session_answers.specs.declared.UpdateAnswer.{UpdateAnswer}
use Rattle.session_answers.specs.Answers.{Reply, Updates, refused_with, accepted_of}
use Rattle.session.specs.Calls.{request_of, clock_after, scene_after, played_of, update_of}
use Rattle.session_laws.proofs.SoundCalls.{update_stays_sound, update_fits}
use Rattle.session_laws.proofs.Ways.{run_in, update_by_ways}
use Rattle.session_laws.proofs.TraceReading.{sound_m, Read, read_in, keeps_self}
use Rattle.session_laws.proofs.LedgerCalls.{stage_kept, update_settles}
use Rattle.demand.specs.Events.{server_at, played_in, events_of}
use Rattle.demand.specs.Calls.{Update, Outcome, outcome_of, happened}
use Rattle.demand.proofs.TraceRuns.{leads_alike, leads_then, Ran, ran_updated}
use Rattle.demand.proofs.OneCall.{Standing, Happens, OneCall, none_traced}

-- what an update came to by its reply, on a tape of so many words
abbrev replied : Reply → ℕ → Outcome
replied a len = record { session = a.session; frames = a.frames; caught = a.steps; left = a.left; right = a.right; room = len; tape = a.tape }

-- the law of one call of an update with this reply
abbrev UpdateLaw : Session → Float → Float → List ℕ → ℕ → Reply → Type 0
UpdateLaw s delta seconds inbox len a = OneCall s (replied a len) (events_of s delta seconds inbox a.refusal)

module _ (s : Session) (delta seconds : Float) (inbox : List ℕ) (len : ℕ) (h : Standing s) where
  -- what happened by the verdict of a reply tells the reply
  abbrev Updated : Reply → Type 0
  Updated a = Happens s (replied a len) (events_of s delta seconds inbox a.refusal)

  updated_refused : (e : Refusal) → Updated (refused_with e s len)
  unfolding refused_with events_of
  updated_refused e =
      let z : len - 0 ≡ len = omega arith in
      record { traced = none_traced s s (keeps_self s) h; rules = tt; tape = ap (λ k. replicate k 0) (sym z) }

  -- the run of its frames
  ran_in : (run_in s delta seconds inbox).stop ≡ Done → Ran s.settings (scene_after s inbox) (played_in s delta seconds inbox) (run_in s delta seconds inbox)
  unfolding played_of
  ran_in d =
      let m : (1 ≤ s.settings.m) × (s.settings.m ≤ 64) = sound_m s h.sound in
      let a : Read s (scene_after s inbox) = read_in s inbox in
      ran_updated s.settings (scene_after s inbox) s.overshoot delta (server_at s delta seconds inbox) m.0 m.1 (a.fitting h.fitting) a.steps d

  updated_accepted : (q : Bool) → (run_in s delta seconds inbox).stop ≡ Done
      → Updated (accepted_of s (clock_after s delta seconds inbox) q (run_in s delta seconds inbox) len)
  unfolding accepted_of events_of
  updated_accepted q d =
      let r : Run = run_in s delta seconds inbox in
      let a : Read s (scene_after s inbox) = read_in s inbox in
      let i : Ran s.settings (scene_after s inbox) (played_in s delta seconds inbox) r = ran_in d in
      record {
        traced = record {
          settings = refl;
          exists = stage_kept s.stage r.played.scene.worlds.published.time h.exists;
          leads = leads_then [] (played_in s delta seconds inbox) (leads_alike a.alike (a.fitting h.fitting)) i.leads;
          frames = i.frames;
          caught = omega (arith, a.steps, i.caught);
        };
        rules = i.rules;
        tape = ap (λ ws. ws ++ replicate (len - length ws) 0) (sym i.words);
      }

  updated : Updated (update_of s delta seconds inbox len)
  updated =
      update_by_ways {P = Updated} s delta seconds inbox len
      (record { refuses = updated_refused; syncs = λ j z. not_true (sym z ∙ h.exists); plays = λ j z d ok. updated_accepted (request_of s delta) d })

by_definition : (s : Session) (delta seconds : Float) (inbox : List ℕ) (len : ℕ) → UpdateLaw s delta seconds inbox len (update_of s delta seconds inbox len)
by_definition s delta seconds inbox len =
    record {
      floats = λ f. update_fits s delta seconds inbox len f;
      sound = λ f e. update_stays_sound s delta seconds inbox len f e;
      happens = λ k. updated s delta seconds inbox len k;
      ledgers = λ x p w. update_settles x s delta seconds inbox len p w;
    }

-- the reply that an answer and a tape give
abbrev reply_of : UpdateAnswer → List ℕ → Reply
reply_of r last =
    record {
      refusal = r.refusal;
      session = r.session;
      frames = r.frames;
      steps = r.steps;
      request = r.request;
      left = r.left;
      right = r.right;
      words = r.words;
      tape = last;
    }

replies : {a : Reply} {r : UpdateAnswer} {last : List ℕ} → Updates a r last → reply_of r last ≡ a
replies u = λ i. reply_of (u.answer i) (u.tape i)

-- an update
pub one_update : (s : Session) (delta seconds : Float) (inbox was : List ℕ) (r : UpdateAnswer) (last : List ℕ)
    → Updates (update_of s delta seconds inbox (length was)) r last →
    OneCall s (outcome_of (Update delta seconds inbox was r last)) (happened s (Update delta seconds inbox was r last))
one_update s delta seconds inbox was r last u = subst (UpdateLaw s delta seconds inbox (length was)) (sym (replies u))
    (by_definition s delta seconds inbox (length was))
