-- What the frames of an update, a skip after them, and the end of an update come to, by the events that the definition says of them. Assumes nothing.
use mathlib.Core.Bool.{Bool, true, false, cond}
use mathlib.Core.List.{List, [], ◌∷◌, ◌++◌, append-nil}
use mathlib.Core.Path.{◌≡◌, refl, ap, sym, subst, ◌∙◌}
use Prim.Native.Nat.{ℕ, zero, suc, ◌+◌, ◌*◌, ◌%◌, ◌^◌, ◌<◌, ◌≤◌}
use native.Mathlib.Omega.{arith}
use lib.IntN.{ℤ, pos, negsuc}
use lib.Ieee.{Float, binary64, sub, lt}
use lib.Ieee.Casts.{to_signed_in}
use mir.Syntax.{w16}
use mir.Val.{SFits}
use Rattle.timestamp.specs.declared.Timestamp.{Timestamp}
use Rattle.timestamp.specs.Timestamps.{bits_of, difference_of}
use Rattle.timestamp.specs.Whole.{ceil_of}
use Rattle.timestamp.specs.Floats.{zero64}
use Rattle.timestamp.specs.FloatTimestamps.{from_seconds, ceil_stamp_of}
use Rattle.settings.specs.declared.Settings.{Settings}
use Rattle.client.specs.declared.ClientWorldSimulations.{ClientWorldSimulations}
use Rattle.client.specs.declared.Scene.{Scene}
use Rattle.client.specs.Sides.{old_stamp_of, and_then}
use Rattle.client_frame.specs.Frame.{frame_of}
use Rattle.client_skip.specs.Skip.{skipped_of}
use Rattle.client_publish.specs.Ending.{post_update_of}
use Rattle.session_laws.proofs.TraceStamps.{lag_is, lag_there, next-sum}
use Rattle.session_laws.proofs.TraceSteps.{lag_in}
use Rattle.session_laws.proofs.TraceFrames.{Fitting, OneFrame, one_frame}
use Rattle.session_laws.proofs.TraceArrivals.{Alike, alike_self, alike_fitting, alike_lag, post_alike, post_queued, OneSkip, one_skip}
use Rattle.refusals.specs.Limits.{most_frames}
use Rattle.refusals.specs.declared.Stop.TheVariants.{Done}
use Rattle.fixed_timestepper.specs.TimeKeeper.{rules_of, Run, ended, framed, compensated_of, corrected_of, skipped, ends_with, advanced_of, updated_of}
use Rattle.fixed_timestepper.proofs.Induction.{frame, later, Runs, run_by, to_skip, Ends, ended_by}
use Rattle.demand.specs.Events.{Event, FrameFrom, SkipFrom, frames_for, frames_played, scene_at, overshoot_at, skip_after, plays_from}
use Rattle.demand.specs.Demand.{frames_in, distances_in, words_in, Ruled, new_steps, SameWorlds, Walk}
use Rattle.demand.proofs.TraceLaw.{Linked, last_in, linked_append, last_append}
use Rattle.demand.proofs.TraceCounts.{frame_new, frames-append, distances_append, new-append, words_append, ruled_append}

-- ---- walks

same_self : (v : ClientWorldSimulations) → SameWorlds v v
same_self v = record { side = refl; old = refl; new = refl; weight = refl }

same_then : {u v w : ClientWorldSimulations} → SameWorlds u v → SameWorlds v w → SameWorlds u w
same_then h k = record { side = h.side ∙ k.side; old = h.old ∙ k.old; new = h.new ∙ k.new; weight = h.weight ∙ k.weight }

same_of : {v w : ClientWorldSimulations} → Alike v w → SameWorlds v w
same_of h = record { side = h.side; old = h.old; new = h.new; weight = h.weight }

walk_same : (u v w : ClientWorldSimulations) (es : List Event) → SameWorlds u v → Walk v es w → Walk u es w
walk_same u v w [] h k = same_then h k
walk_same u v w (FrameFrom y s ∷ es) h k = (same_then h k.0, k.1)
walk_same u v w (SkipFrom s t ∷ es) h k = (same_then h k.0, k.1)

walk-append : (u v w : ClientWorldSimulations) (t r : List Event) → Walk u t v → Walk v r w → Walk u (t ++ r) w
walk-append u v w [] r h k = walk_same u v w r h k
walk-append u v w (FrameFrom y s ∷ t) r h k = (h.0, walk-append (frame_of y s).scene.worlds v w t r h.1 k)
walk-append u v w (SkipFrom s x ∷ t) r h k = (h.0, walk-append (skipped_of s x).scene.worlds v w t r h.1 k)

-- ---- from worlds to worlds

-- the events es lead from the worlds v to the worlds w
pub record Leads (m : ℕ) (v w : ClientWorldSimulations) (es : List Event) : Type 0 where
  pub fitting : Fitting w
  pub old : (old_stamp_of w).0 ≡ ((old_stamp_of v).0 + frames_in es + distances_in es) % 65536
  pub linked : Linked m (lag_in v) es
  pub last : last_in (lag_in v) es ≡ lag_in w
  pub walk : Walk v es w

-- nothing happens, and sides, stamps and weight are kept
pub leads_alike : {m : ℕ} {v w : ClientWorldSimulations} → Alike v w → Fitting w → Leads m v w []
leads_alike a f =
    record { fitting = f; old = omega (arith, ap (λ (t : Timestamp). t.0) a.old, f.old); linked = tt; last = alike_lag a; walk = same_of a }

leads_frame : (c : Settings) (s : Scene) → 1 ≤ c.m → Fitting s.worlds → Leads c.m s.worlds (frame c s).scene.worlds (FrameFrom (rules_of c) s ∷ [])
leads_frame c s hm h =
    let f : OneFrame (rules_of c) s (frame c s) = one_frame (rules_of c) s in
    record {
      fitting = f.fitting h;
      old = omega (arith, f.old ∙ next-sum (old_stamp_of s.worlds).0);
      linked = (record { law = λ l. f.behind hm h l; few = f.few }, tt);
      last = refl;
      walk = (same_self s.worlds, same_self (frame c s).scene.worlds);
    }

distance_sum : (o d : ℕ) → (o + d) % 65536 ≡ (o + 0 + (d + 0)) % 65536
distance_sum o d = omega arith

leads_skip : (m : ℕ) (s : Scene) (t : Timestamp) → t.0 < 65536 → Fitting s.worlds
    → Leads m s.worlds (skipped_of s t).scene.worlds (SkipFrom s t ∷ [])
leads_skip m s t l h =
    let k : OneSkip s t (skipped_of s t) = one_skip s t in
    let o : ℕ = (old_stamp_of s.worlds).0 in
    record {
      fitting = k.fitting l h;
      old = ap (λ (x : Timestamp). x.0) k.old ∙ lag_there o t.0 h.old l ∙ ap (λ n. (o + n) % 65536) (lag_is t.0 o)
          ∙ distance_sum o (difference_of t.0 o);
      linked = tt;
      last = refl;
      walk = (same_self s.worlds, same_self (skipped_of s t).scene.worlds);
    }

stamp_on : (z y x f g d e : ℕ) → y ≡ (x + f + d) % 65536 → z ≡ (y + g + e) % 65536 → z ≡ (x + (f + g) + (d + e)) % 65536
stamp_on z y x f g d e a b = omega arith

-- one after the other
pub leads_then : {m : ℕ} {u v w : ClientWorldSimulations} (t r : List Event) → Leads m u v t → Leads m v w r → Leads m u w (t ++ r)
leads_then {m} {u} {v} {w} t r h k =
    record {
      fitting = k.fitting;
      old = stamp_on _ _ _ _ _ _ _ h.old k.old ∙ (λ i. ((old_stamp_of u).0 + sym (frames-append t r) i + sym (distances_append t r) i) % 65536);
      linked = linked_append m (lag_in u) t r h.linked (subst (λ x. Linked m x r) (sym h.last) k.linked);
      last = last_append (lag_in u) t r ∙ ap (λ x. last_in x r) h.last ∙ k.last;
      walk = walk-append u v w t r h.walk k.walk;
    }

-- ---- a run

-- the events es of a run r from the scene s tell its frames, its words, its steps and its worlds
pub record Ran (c : Settings) (s : Scene) (es : List Event) (r : Run) : Type 0 where
  pub leads : Leads c.m s.worlds r.played.scene.worlds es
  pub rules : Ruled (rules_of c) es
  pub frames : frames_in es ≡ r.frames
  pub words : words_in es ≡ r.played.words
  pub caught : r.played.scene.steps ≡ s.steps + (new_steps 0 es + new_steps 1 es)

-- a run of f frames by the definition, from the scene s and the overshoot o
record Plays (c : Settings) (s : Scene) (o : Float) (f : ℕ) (r : Run) : Type 0 where
  ran : Ran c s (frames_played f (rules_of c) s) r
  scene : r.played.scene ≡ scene_at f (rules_of c) s
  overshoot : r.overshoot ≡ overshoot_at f c.timestep o

-- a frame in front
plays_framed : (c : Settings) (s : Scene) (o : Float) (f : ℕ) (r : Run) → 1 ≤ c.m → s.steps + c.m < 2 ^ 32 → Fitting s.worlds
    → Plays c (frame c s).scene (later c o) f r → Plays c s o (suc f) (framed (rules_of c) s r)
unfolding framed
plays_framed c s o f r hm hs h i =
    record {
      ran = record {
        leads = leads_then (FrameFrom (rules_of c) s ∷ []) _ (leads_frame c s hm h) i.ran.leads;
        rules = (refl, i.ran.rules);
        frames = ap (λ n. 1 + n) i.ran.frames;
        words = ap (λ ws. (frame c s).words ++ ws) i.ran.words;
        caught = omega (arith, (one_frame (rules_of c) s).steps hs, frame_new (rules_of c) s, i.ran.caught);
      };
      scene = i.scene;
      overshoot = i.overshoot;
    }

none_more : (n : ℕ) (t o : Float) → lt o zero64 ≡ false → frames_for n t o ≡ 0
none_more zero t o e = refl
none_more (suc n) t o e = rw e refl

-- the frames of an update that end by themselves, with room for the steps of each, are as many as the overshoot needs
plays : (c : Settings) → 1 ≤ c.m → c.m ≤ 64
    → Runs c (λ n s o r. r.stop ≡ Done → Fitting s.worlds → s.steps + 64 * n < 2 ^ 32 → Plays c s o (frames_for n c.timestep o) r)
unfolding framed
plays c hm hl =
    record {
      full = λ s o e d h k. absurd (let z : ◌≡◌ {A = ℕ} 0 1 = cc in omega arith);
      done = λ n s o e d h k.
          subst (λ f. Plays c s o f (ended Done s o)) (sym (none_more n c.timestep o e))
          (record {
            ran = record { leads = leads_alike (alike_self s.worlds) h; rules = tt; frames = refl; words = refl; caught = omega arith };
            scene = refl;
            overshoot = refl;
          });
      stops = λ n s o e d h k. absurd (let z : ◌≡◌ {A = ℕ} 0 1 = cc in omega arith);
      goes = λ n s o r e i d h k.
          let f : OneFrame (rules_of c) s (frame c s) = one_frame (rules_of c) s in
          let hs : s.steps + c.m < 2 ^ 32 = omega arith in
          let g : ℕ = frames_for n c.timestep (later c o) in
          subst (λ x. Plays c s o x (framed (rules_of c) s r)) (ap (λ (b : Bool). cond b (suc g) 0) (sym e))
          (plays_framed c s o g r hm hs h (i d (f.fitting h) (omega (arith, f.few, f.steps hs))));
    }

-- ---- the skip

bits_below : (v : ℤ) → SFits w16 v → bits_of v < 65536
bits_below (pos n) f = omega (arith, f.sfits)
bits_below (negsuc n) f = omega arith

-- the stamp that a skip sets has 16 bits
corrected_below : (server timestep : Float) → (corrected_of server timestep).0 < 65536
unfolding corrected_of ceil_stamp_of
corrected_below server timestep = bits_below (ceil_stamp_of (from_seconds server timestep))
    (record { sfits = to_signed_in 15 (ceil_of (from_seconds server timestep)) })

ran_skipped : (c : Settings) (s : Scene) (es : List Event) (r : Run) (server : Float) → Ran c s es r
    → Ran c s (es ++ (SkipFrom r.played.scene (corrected_of server c.timestep) ∷ [])) (skipped r server c)
unfolding skipped and_then
ran_skipped c s es r server i =
    let t : Timestamp = corrected_of server c.timestep in
    let u : Scene = r.played.scene in
    let k : List Event = SkipFrom u t ∷ [] in
    record {
      leads = leads_then es k i.leads (leads_skip c.m u t (corrected_below server c.timestep) i.leads.fitting);
      rules = ruled_append (rules_of c) es k i.rules tt;
      frames = omega (arith, frames-append es k, i.frames);
      words = words_append es k ∙ (λ j. i.words j ++ append-nil (skipped_of u t).words j);
      caught = omega (arith, (one_skip u t).steps, i.caught, new-append 0 es k, new-append 1 es k);
    }

-- ---- the end

ran_ends : (c : Settings) (s : Scene) (es : List Event) (r : Run) (t : Float) (lag : ℕ) → Ran c s es r
    → Ran c s es (ends_with r (post_update_of r.played.scene.worlds t lag))
ran_ends c s es r t lag i =
    let v : ClientWorldSimulations = r.played.scene.worlds in
    let a : Alike v (post_update_of v t lag) = post_alike v t lag in
    let f : Fitting (post_update_of v t lag) = alike_fitting a (rw (post_queued v t lag) i.leads.fitting.queued) i.leads.fitting in
    record {
      leads = subst (Leads c.m s.worlds (post_update_of v t lag)) (append-nil es) (leads_then es [] i.leads (leads_alike a f));
      rules = i.rules;
      frames = i.frames;
      words = i.words;
      caught = i.caught;
    }

module _ (c : Settings) (server : Float) (s : Scene) (o : Float) (f : ℕ) where
  -- what is after the frames of a run, by whether it is to skip
  after_is : (b : Bool) (r : Run) → to_skip c server r ≡ b → Plays c s o f r →
      frames_played f (rules_of c) s ++ cond b (SkipFrom r.played.scene (corrected_of server c.timestep) ∷ []) [] ≡ plays_from c server s o f
  after_is b r e i =
      ap (λ (x : Bool). frames_played f (rules_of c) s ++ cond x (SkipFrom r.played.scene (corrected_of server c.timestep) ∷ []) []) (sym e)
      ∙ (λ j. frames_played f (rules_of c) s ++ skip_after c server (i.scene j) (i.overshoot j))

  ran_over : Ends c server (λ r. r.stop ≡ Done → Plays c s o f r) (λ r. r.stop ≡ Done → Ran c s (plays_from c server s o f) r)
  unfolding skipped
  ran_over =
      record {
        rests = λ r e i d. subst (λ es. Ran c s es r) (sym (append-nil (frames_played f (rules_of c) s)) ∙ after_is false r (e d) (i d)) (i d).ran;
        skips = λ r e i d. subst (λ es. Ran c s es (skipped r server c)) (after_is true r e (i d))
            (ran_skipped c s (frames_played f (rules_of c) s) r server (i d).ran);
        shows = λ r t lag i d. ran_ends c s (plays_from c server s o f) r t lag (i d);
      }

-- one update of the worlds that is played to its end
pub ran_updated : (c : Settings) (s : Scene) (o delta server : Float) → 1 ≤ c.m → c.m ≤ 64 → Fitting s.worlds → s.steps ≡ 0
    → (updated_of c s o delta server).stop ≡ Done →
    let x : Float = sub binary64 o (compensated_of (old_stamp_of s.worlds) o delta server c) in
    Ran c s (plays_from c server s x (frames_for most_frames c.timestep x)) (updated_of c s o delta server)
unfolding advanced_of
ran_updated c s o delta server hm hl h e =
    let x : Float = sub binary64 o (compensated_of (old_stamp_of s.worlds) o delta server c) in
    ended_by (ran_over c server s x (frames_for most_frames c.timestep x)) s o delta (λ d. run_by (plays c hm hl) most_frames s x d h (omega arith))
