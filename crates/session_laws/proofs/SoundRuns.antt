-- The frames of an update: worlds stay sound through them, a skip and what every update ends with, and an update that ends by itself leaves an overshoot from 0
-- to the timestep. Assumes nothing.
use mathlib.Core.Path.{◌≡◌, refl, sym, subst}
use mathlib.Core.Logic.{◌⊎◌, inl, inr}
use mathlib.Core.Bool.{Bool, true, false, not, cond}
use Prim.Native.Nat.{ℕ, suc, ◌^◌}
use native.Mathlib.Omega.{arith}
use lib.Dec.{T, lit<}
use lib.IntN.{pos}
use lib.Ieee.{Float, nan, inf, fin, binary64, fits, sub, mul, lt, le}
use lib.Ieee.Scale.{finite}
use Rattle.float_laws.specs.Fractions.{val}
use Rattle.float_laws.specs.Bounds.{Within}
use Rattle.timestamp.specs.Floats.{one64, tween_of, zero64, least64, sixty_four64}
use Rattle.float_laws.specs.Laws.{Step}
use Rattle.float_laws.proofs.Value.{q_le_refl, le_of_val}
use Rattle.float_laws.proofs.Order.{between_finite, float_le_trans, float_le_of_lt, float_le_of_not_lt}
use Rattle.float_laws.proofs.Round.{has_value_finite}
use Rattle.float_laws.proofs.Within.{within_of_tests}
use Rattle.float_laws.proofs.Timestep.{div-least_within}
use Rattle.float_laws.proofs.Frames.{After, frames_start, frames_step}
use Rattle.timestamp.specs.declared.Timestamp.{Timestamp}
use Rattle.settings.specs.declared.Settings.{Settings}
use Rattle.settings.specs.Settings.{passes_of, blend_progress_of}
use Rattle.settings.proofs.Limits.{timestep_within, blend_within, max_tests, steps_few, sixty_four_exact}
use Rattle.client.specs.declared.Scene.{Scene}
use Rattle.client.specs.Sides.{old_stamp_of}
use Rattle.client_publish.specs.Ending.{weight_ok}
use Rattle.session_laws.proofs.SoundWorlds.{Kept, Weighed}
use Rattle.session_laws.proofs.SoundFrames.{kept_moves, weighed_updates}
use Rattle.refusals.specs.declared.Stop.{Stop}
use Rattle.refusals.specs.declared.Stop.TheVariants.{Done, TooManyFrames, StatusStops}
use Rattle.fixed_timestepper.specs.TimeKeeper.{at_least_zero, drift_of, beyond_deadband, uncapped_of, compensated_of, Run, framed, skips_of, skipped}
use Rattle.fixed_timestepper.specs.TimeKeeper.{maybe_skipped}
use Rattle.fixed_timestepper.specs.TimeKeeper.{skipped_by, unended_of, advanced_of, updated_of}
use Rattle.fixed_timestepper.proofs.Induction.{Runs, run_by, updated_by, moves_by}
use Rattle.session_laws.proofs.SoundSkips.{corrected_in}

-- ---- what settings that pass give

module _ (c : Settings) (pass : passes_of c ≡ true) where
  -- the timestep
  pub step_of : T (fits binary64 c.timestep) → Step c.timestep
  step_of f = let w = timestep_within c pass in record { fits_t = f; finite_t = w.number; least = w.low; most = w.high }

  -- the blend weight's progress is within 1,024
  pub progress_within : Within (blend_progress_of c) 1024
  unfolding le
  progress_within =
      let t = timestep_within c pass in
      let b = blend_within c pass in
      let w : Within c.timestep 1 = within_of_tests c.timestep (fin true 1 (pos 0)) one64 1 t.number (refl, refl) (refl, refl)
      (float_le_trans (fin true 1 (pos 0)) least64 c.timestep tt t.low) t.high in
      div-least_within c.timestep c.blend 1 (lit< tt) w b.number b.low

  -- the update maximum is finite
  pub max_finite : T (fits binary64 c.timestep) → T (finite c.max)
  max_finite f =
      let m = max_tests c pass in
      between_finite zero64 c.max (mul binary64 sixty_four64 c.timestep) tt
      (has_value_finite (mul binary64 sixty_four64 c.timestep) false _ _ (sixty_four_exact c.timestep f (timestep_within c pass))) m.0 m.1

-- ---- the seconds that an update plays

-- from 0 to a maximum
pub record Capped (max d : Float) : Type 0 where
  pub number : T (finite d)
  pub low : T (le zero64 d)
  pub high : T (le d max)

-- a number that is not above 0 gives 0, and any other but an infinity is finite
at_least : (x : Float) → (T (finite (at_least_zero x)) × T (le zero64 (at_least_zero x))) ⊎ (at_least_zero x ≡ inf false)
unfolding lt le
at_least nan = inl (tt, tt)
at_least (inf true) = inl (tt, tt)
at_least (inf false) = inr refl
at_least (fin s m e) = inl (go (lt zero64 (fin s m e)) (λ (h : T (lt zero64 (fin s m e))). float_le_of_lt zero64 (fin s m e) tt tt h))
  where
    go : (b : Bool) → (T b → T (le zero64 (fin s m e))) → T (finite (cond b (fin s m e) zero64)) × T (le zero64 (cond b (fin s m e) zero64))
    go true h = (tt, h tt)
    go false h = (tt, tt)

below_infinity : (x : Float) → T (finite x) → lt x (inf false) ≡ true
unfolding lt
below_infinity nan p = absurd p
below_infinity (inf s) p = absurd p
below_infinity (fin s m e) p = refl

le_self : (x : Float) → T (finite x) → T (le x x)
le_self x p = le_of_val x x p p (q_le_refl (val x))

cap : (max u : Float) → T (finite max) → T (le zero64 max) → (T (finite u) × T (le zero64 u)) ⊎ (u ≡ inf false) → Capped max (cond (lt max u) max u)
cap max u p l (inl h) = go (lt max u) (λ (n : T (not (lt max u))). float_le_of_not_lt max u p h.0 n)
  where
    go : (b : Bool) → (T (not b) → T (le u max)) → Capped max (cond b max u)
    go true k = record { number = p; low = l; high = le_self max p }
    go false k = record { number = h.0; low = h.1; high = k tt }
cap max u p l (inr e) =
    subst (λ (v : Float). Capped max (cond (lt max v) max v)) (sym e)
    (subst (λ (b : Bool). Capped max (cond b max (inf false))) (sym (below_infinity max p)) (record { number = p; low = l; high = le_self max p }))

pub compensated_capped : (stamp : Timestamp) (o delta server : Float) (c : Settings) → T (finite c.max) → T (le zero64 c.max)
    → Capped c.max (compensated_of stamp o delta server c)
unfolding compensated_of uncapped_of
compensated_capped stamp o delta server c p l = cap c.max (uncapped_of stamp o delta server c.timestep) p l
    (at_least (sub binary64 delta (beyond_deadband (drift_of stamp o c.timestep (sub binary64 server delta)) c.timestep)))

-- ---- the overshoot after the frames

-- finite and from 0 to the timestep
pub record InStep (t o : Float) : Type 0 where
  pub number : T (finite o)
  pub low : T (le zero64 o)
  pub high : T (le o t)

-- the frames end by themselves once the overshoot is not below 0, and no addition takes it above the timestep
overshoot_runs : (c : Settings) → Step c.timestep → Runs c
    (λ n s o r. (k : ℕ) → After c.timestep k o → r.stop ≡ Done → InStep c.timestep r.overshoot)
unfolding framed
overshoot_runs c st =
    record {
      full = λ s o e k a q. absurd (let z : ◌≡◌ {A = ℕ} 0 1 = cc in omega arith);
      done = λ n s o e k a q.
          record {
            number = a.finite_x;
            low = float_le_of_not_lt o zero64 a.finite_x tt (subst (λ (b : Bool). T (not b)) (sym e) tt);
            high = le_of_val o c.timestep a.finite_x st.finite_t a.ceiling;
          };
      stops = λ n s o e k a q. absurd (let z : ◌≡◌ {A = ℕ} 0 1 = cc in omega arith);
      goes = λ n s o r e i k a q. i (suc k) (frames_step c.timestep k o st a (subst T (sym e) tt)) q;
    }

-- ---- one update of the worlds

module _ (c : Settings) (pass : passes_of c ≡ true) where
  -- buffers, queued snapshot and initialisation stay sound
  pub updated_kept : (s : Scene) (o delta server : Float) → Kept s.worlds → Kept (updated_of c s o delta server).played.scene.worlds
  updated_kept s o delta server = updated_by (moves_by kept_moves c) s o delta server

  -- and so does the weight
  pub updated_weighed : (s : Scene) (o delta server : Float) → Weighed s.worlds → Weighed (updated_of c s o delta server).played.scene.worlds
  updated_weighed s o delta server = updated_by (weighed_updates c (steps_few c pass).0 (progress_within c pass)) s o delta server

  module _ (fit : T (fits binary64 c.timestep)) where
    -- the overshoot after the frames, from one of 0 to the timestep
    advanced_in : (s : Scene) (o delta server : Float) → InStep c.timestep o → (advanced_of c s o delta server).stop ≡ Done
        → InStep c.timestep (advanced_of c s o delta server).overshoot
    unfolding advanced_of
    advanced_in s o delta server i e =
        let d = compensated_of (old_stamp_of s.worlds) o delta server c in
        let m = max_tests c pass in
        let k = compensated_capped (old_stamp_of s.worlds) o delta server c (max_finite c pass fit) m.0 in
        let st = step_of c pass fit in
        run_by (overshoot_runs c st) 65 s (sub binary64 o d) 0
        (frames_start o d c.timestep st i.number k.number i.low i.high k.low
        (float_le_trans d c.max (mul binary64 sixty_four64 c.timestep) k.high m.1)) e

    -- after a skip, where the weight passes
    skipped_in : (r : Run) (server : Float) → Within server (2 ^ 34) → InStep c.timestep r.overshoot
        → weight_ok (tween_of (maybe_skipped r server c).overshoot c.timestep) ≡ true → InStep c.timestep (maybe_skipped r server c).overshoot
    unfolding maybe_skipped skipped
    skipped_in r server w i = go (skips_of (old_stamp_of r.played.scene.worlds) r.overshoot server c)
      where
        go : (b : Bool) → weight_ok (tween_of (cond b (skipped r server c) r).overshoot c.timestep) ≡ true
            → InStep c.timestep (cond b (skipped r server c) r).overshoot
        go true ok = let x = corrected_in server c.timestep w (step_of c pass fit) ok in record { number = x.0; low = x.1; high = x.2 }
        go false ok = i

    -- an update that ends by itself, where the weight passes, leaves an overshoot from 0 to the timestep
    pub updated_overshoot : (s : Scene) (o delta server : Float) → Within server (2 ^ 34) → InStep c.timestep o → (updated_of c s o delta server).stop ≡ Done
        → weight_ok (tween_of (updated_of c s o delta server).overshoot c.timestep) ≡ true → InStep c.timestep (updated_of c s o delta server).overshoot
    unfolding updated_of unended_of
    updated_overshoot s o delta server w i = go (advanced_of c s o delta server).stop (advanced_of c s o delta server)
        (λ q. advanced_in s o delta server i q) refl
      where
        go : (x : Stop) (r : Run) → (r.stop ≡ Done → InStep c.timestep r.overshoot) → r.stop ≡ x → (skipped_by x r server c).stop ≡ Done
            → weight_ok (tween_of (skipped_by x r server c).overshoot c.timestep) ≡ true → InStep c.timestep (skipped_by x r server c).overshoot
        go Done r k e d ok = skipped_in r server w (k e) ok
        go TooManyFrames r k e d ok = absurd (let z : ◌≡◌ {A = ℕ} 0 1 = cc in omega arith)
        go StatusStops r k e d ok = absurd (let z : ◌≡◌ {A = ℕ} 0 1 = cc in omega arith)
