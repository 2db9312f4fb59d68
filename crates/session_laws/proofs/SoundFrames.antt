-- Worlds stay sound through a frame, a skip and what every update ends with. The weight moves in Blending alone, and there the stamps stay equal: the old world
-- steps once, and the new one once after it. Assumes nothing.
use Rattle.std.specs.Ordering.{is_ge}
use mathlib.Core.Path.{◌≡◌, refl, sym, ap, ◌∙◌, subst}
use mathlib.Core.Bool.{Bool, true, false, cond}
use Prim.Native.Nat.{ℕ, zero, suc, ◌+◌, ◌-◌, ◌*◌, ◌%◌, ◌<◌, ◌≤◌}
use native.Mathlib.Omega.{arith}
use lib.Dec.{T, eqb, eqb→eq, lit<, lit≤}
use lib.IntN.{pos}
use lib.Ieee.{Float, nan, inf, fin, up, down, binary64, add, lt, eq, le}
use lib.Ieee.Fits.{and_l}
use borrow.Author.Tests.{eqb-true, eq-eqb}
use Rattle.float_laws.specs.Bounds.{Within}
use Rattle.timestamp.specs.Floats.{zero64, one64, clamped_of}
use Rattle.float_laws.proofs.Value.{le_of_val}
use Rattle.float_laws.proofs.Order.{between_finite, float_le_trans}
use Rattle.float_laws.proofs.Within.{within_of_tests, add_within}
use Rattle.float_laws.proofs.Overshoot.{clamp_unit}
use Rattle.timestamp.specs.declared.Timestamp.{Timestamp}
use Rattle.std.specs.declared.cmp.Ordering.TheVariants.{Less, Equal}
use Rattle.timestamp.specs.Timestamps.{sum_of, order_of}
use Rattle.timestamp.proofs.Order.{order_equal, order_less}
use Rattle.settings.specs.declared.Settings.{Settings}
use Rattle.settings.specs.Settings.{blend_progress_of}
use Rattle.command.specs.Buffer.{emptied_of}
use Rattle.command.proofs.Soundness.{moved_sound, emptied_sound}
use Rattle.simulation.specs.World.{next_stamp, step_of, reset_of}
use Rattle.client.specs.declared.ReconciliationStatus.TheVariants.{Blending}
use Rattle.client.specs.declared.ClientWorldSimulations.{ClientWorldSimulations}
use Rattle.client.specs.declared.Scene.{Scene}
use Rattle.client.specs.Sides.{new_side_of, old_side_of, world_of, old_stamp_of, new_stamp_of, Played, still, and_then, done_at}
use Rattle.client.specs.Status.{status_by, status_of, overshot_of, newer_of}
use Rattle.client_frame.specs.Frame.{blended_on, reset_new, stepped_side, caught_up_of, stepped_new, unless, caught_of, simulated_of}
use Rattle.client_frame.proofs.Induction.{Keeps, keeps_chains, Same, same_chains, Parts, frame_by, reset_at, Steps, simulated_by}
use Rattle.fixed_timestepper.specs.TimeKeeper.{rules_of}
use Rattle.fixed_timestepper.proofs.Induction.{Updates, both_by_lem, AllMoves}
use Rattle.client_frame.specs.declared.Rules.{Rules}
use Rattle.client_skip.specs.Skip.{reset_side, reset_along, skips_back, emptied_base, reset_both, skipped_of}
use Rattle.client_publish.specs.Ending.{post_update_of}
use Rattle.session_laws.proofs.SoundWorlds.{Kept, Weighed, is_nought, is_even, side_sound, old_at_old, new_at_old, new_at_new, old_at_new, put_old_side}
use Rattle.session_laws.proofs.SoundWorlds.{weighed_as, base_kept, base_weighed, published_kept, published_weighed, weight_kept, weight_weighed}
use Rattle.session_laws.proofs.SoundWorlds.{done_worlds, done_kept, done_weight, step_init, step_sound, step_stamp, reset_init, reset_sound, reset_stamp}
use Rattle.session_laws.proofs.SoundWorlds.{loaded_kept, loaded_weighed}

-- ---- the buffers, the queued snapshot and the initialisation

-- a step of a side
stepped_kept : (s : Scene) (side : ℕ) → Kept s.worlds → Kept (stepped_side s side).scene.worlds
unfolding stepped_side
stepped_kept s side k =
    let x = world_of s.worlds side in
    done_kept s side (step_of x side) (step_sound x side (side_sound s.worlds side k)) (step_init x side) k

-- a reset of a side
reset_side_kept : (s : Scene) (side : ℕ) (t : Timestamp) → Kept s.worlds → Kept (reset_at s side t).scene.worlds
reset_side_kept s side t k =
    let x = world_of s.worlds side in
    done_kept s side (reset_of x t side) (reset_sound x t side (side_sound s.worlds side k)) (reset_init x t side) k

-- what every update ends with
post_kept : (w : ClientWorldSimulations) (t : Float) (lag : ℕ) → Kept w → Kept (post_update_of w t lag)
unfolding post_update_of
post_kept w t lag k = record { left = k.left; right = k.right; base = moved_sound w.base (old_stamp_of w) k.base; queued = k.queued; init = k.init }

-- each move of an update
pub kept_moves : AllMoves (Keeps Kept) 0 0 0 0
kept_moves =
    record {
      moves = record {
        stepping = record { chains = keeps_chains Kept; steps = λ s side l. stepped_kept s side; counts = λ s k. k };
        fits = omega arith;
        loads = λ s side t h l. loaded_kept s side t h;
        resets = λ s side t l. reset_side_kept s side t;
        weighs = λ s t. weight_kept s.worlds t;
        shows = λ s l w. published_kept s.worlds _;
      };
      empties = λ s k. base_kept s.worlds (emptied_of s.worlds.base) (emptied_sound s.worlds.base k.base) k;
      ends = λ s t lag. post_kept s.worlds t lag;
    }

-- ---- equal stamps

-- a stamp has reached itself
caught_up_same : (n o : Timestamp) → n.0 ≡ o.0 → o.0 < 65536 → caught_up_of n o ≡ true
unfolding caught_up_of
caught_up_same n o e h =
    let i : order_of n.0 o.0 ≡ Equal = order_equal 0 (omega arith) h (lit< tt) (omega arith) refl in
    ap is_ge i

-- a stamp has not reached the next one
order_next : (n : ℕ) → order_of n (sum_of n 1) ≡ order_of (n % 65536) (sum_of n 1)
unfolding order_of
order_next n = let e : (n + (65536 - (n + 1) % 65536)) % 65536 ≡ (n % 65536 + (65536 - (n + 1) % 65536)) % 65536 = omega arith in rw e

caught_up_next : (n o : Timestamp) → o.0 ≡ sum_of n.0 1 → caught_up_of n o ≡ false
unfolding caught_up_of
caught_up_next n o e =
    let k = n.0 in
    let i : order_of (k % 65536) (sum_of k 1) ≡ Less = order_less 65535 (omega arith) (omega arith) (lit< tt) (omega arith) (lit≤ tt) in
    ap (λ (x : ℕ). is_ge (order_of k x)) e ∙ ap is_ge (order_next k ∙ i)

-- nothing is left to catch up with
caught_there : (m : ℕ) (o : Timestamp) (s : Scene) → (new_stamp_of s.worlds).0 ≡ o.0 → o.0 < 65536 → caught_of m o s ≡ still s
unfolding caught_of
caught_there zero o s e h = refl
caught_there (suc m) o s e h = ap (λ (b : Bool). unless b s (and_then (stepped_new s) (caught_of m o))) (caught_up_same (new_stamp_of s.worlds) o e h)

-- the stamps after a step of a side
module _ (s : Scene) where
  old_stepped_old : old_stamp_of (stepped_side s (old_side_of s.worlds)).scene.worlds ≡ next_stamp (old_stamp_of s.worlds)
  unfolding stepped_side old_stamp_of
  old_stepped_old =
      let side = old_side_of s.worlds in
      let d = step_of (world_of s.worlds side) side in
      ap old_stamp_of (done_worlds s side d) ∙ old_at_old s.worlds d.world ∙ step_stamp (world_of s.worlds side) side

  new_stepped_old : new_stamp_of (stepped_side s (old_side_of s.worlds)).scene.worlds ≡ new_stamp_of s.worlds
  unfolding stepped_side
  new_stepped_old =
      let side = old_side_of s.worlds in
      let d = step_of (world_of s.worlds side) side in
      ap new_stamp_of (done_worlds s side d) ∙ new_at_old s.worlds d.world

  new_stepped_new : new_stamp_of (stepped_new s).scene.worlds ≡ next_stamp (new_stamp_of s.worlds)
  unfolding stepped_new stepped_side new_stamp_of
  new_stepped_new =
      let side = new_side_of s.worlds in
      let d = step_of (world_of s.worlds side) side in
      ap new_stamp_of (done_worlds s side d) ∙ new_at_new s.worlds d.world ∙ step_stamp (world_of s.worlds side) side

  old_stepped_new : old_stamp_of (stepped_new s).scene.worlds ≡ old_stamp_of s.worlds
  unfolding stepped_new stepped_side
  old_stepped_new =
      let side = new_side_of s.worlds in
      let d = step_of (world_of s.worlds side) side in
      ap old_stamp_of (done_worlds s side d) ∙ old_at_new s.worlds d.world

-- a new world one frame behind catches up in one step
caught_one : (m : ℕ) (o : Timestamp) (s : Scene) → o.0 ≡ sum_of (new_stamp_of s.worlds).0 1 → (caught_of (suc m) o s).scene ≡ (stepped_new s).scene
unfolding caught_of and_then
caught_one m o s e =
    let t = (stepped_new s).scene in
    let a : (new_stamp_of t.worlds).0 ≡ o.0 = ap (λ (x : Timestamp). x.0) (new_stepped_new s) ∙ sym e in
    ap (λ (b : Bool). (unless b s (and_then (stepped_new s) (caught_of m o))).scene) (caught_up_next (new_stamp_of s.worlds) o e)
    ∙ ap (λ (p : Played). p.scene) (caught_there m o t a (omega arith))

-- equal stamps are equal after the steps of a frame
simulated_even : (m : ℕ) (s : Scene) → (old_stamp_of s.worlds).0 ≡ (new_stamp_of s.worlds).0
    → (old_stamp_of (simulated_of (suc m) s).scene.worlds).0 ≡ (new_stamp_of (simulated_of (suc m) s).scene.worlds).0
unfolding simulated_of and_then
simulated_even m s e =
    let t = (stepped_side s (old_side_of s.worlds)).scene in
    let o = old_stamp_of t.worlds in
    let a : o.0 ≡ sum_of (old_stamp_of s.worlds).0 1 = ap (λ (x : Timestamp). x.0) (old_stepped_old s) in
    let b : (new_stamp_of t.worlds).0 ≡ (new_stamp_of s.worlds).0 = ap (λ (x : Timestamp). x.0) (new_stepped_old s) in
    let c : o.0 ≡ sum_of (new_stamp_of t.worlds).0 1 = a ∙ ap (λ (x : ℕ). sum_of x 1) (e ∙ sym b) in
    let d : (caught_of (suc m) o t).scene ≡ (stepped_new t).scene = caught_one m o t c in
    ap (λ (u : Scene). (old_stamp_of u.worlds).0) d ∙ ap (λ (x : Timestamp). x.0) (old_stepped_new t) ∙ c
    ∙ sym (ap (λ (x : Timestamp). x.0) (new_stepped_new t)) ∙ sym (ap (λ (u : Scene). (new_stamp_of u.worlds).0) d)

-- ---- the weight

-- the steps of worlds leave it
weight_steps : Steps (Same (λ (w : ClientWorldSimulations). w.weight)) 0
unfolding stepped_side
weight_steps =
    record {
      chains = same_chains (λ (w : ClientWorldSimulations). w.weight);
      steps = λ s side l. done_weight s side (step_of (world_of s.worlds side) side);
      counts = λ s. refl;
    }

simulated_weighed : (m : ℕ) (s : Scene) → 1 ≤ m → Weighed s.worlds → Weighed (simulated_of m s).scene.worlds
simulated_weighed zero s l h = absurd (omega arith)
simulated_weighed (suc m) s l (is_nought h) = is_nought (subst (λ (t : Float). T (eq t zero64)) (sym (simulated_by weight_steps (suc m) s)) h)
simulated_weighed (suc m) s l (is_even e a b) =
    is_even (simulated_even m s e) (subst (λ (t : Float). T (le zero64 t)) (sym (simulated_by weight_steps (suc m) s)) a)
    (subst (λ (t : Float). T (le t one64)) (sym (simulated_by weight_steps (suc m) s)) b)

-- in Blending the stamps are equal
blending_by : (a l v q : Bool) (t u : Float) → status_by a l v q t ≡ Blending u → a ≡ true
blending_by true l v q t u e = refl
blending_by false l true q t u e = absurd (let z : ◌≡◌ {A = ℕ} 0 1 = cc in omega arith)
blending_by false l false true t u e = absurd (let z : ◌≡◌ {A = ℕ} 0 1 = cc in omega arith)
blending_by false l false false t u e = absurd (let z : ◌≡◌ {A = ℕ} 0 1 = cc in omega arith)

blending_even : (w : ClientWorldSimulations) (u : Float) → status_of w ≡ Blending u → (old_stamp_of w).0 ≡ (new_stamp_of w).0
unfolding status_of
blending_even w u e =
    sym (eqb-true (new_stamp_of w).0 (old_stamp_of w).0 (blending_by (eqb (new_stamp_of w).0 (old_stamp_of w).0) (lt w.weight one64)
    (overshot_of (new_stamp_of w) (old_stamp_of w)) (newer_of w.snapshots.queued (new_stamp_of w)) w.weight u e))

-- a weight is from 0 to 1
nought_low : (x : Float) → T (eq x zero64) → T (le zero64 x) × T (le x one64)
unfolding eq le lt
nought_low nan h = absurd h
nought_low (inf s) h = absurd h
nought_low (fin false m e) h =
    let k : m * up e * 1 ≡ 0 * 1 * down e = eqb→eq (m * up e * 1) (0 * 1 * down e) (and_l (eqb (m * up e * 1) (0 * 1 * down e)) true h) in
    (le_of_val zero64 (fin false m e) tt tt (omega arith), le_of_val (fin false m e) one64 tt tt (omega arith))
nought_low (fin true m e) h =
    let k : m * up e * 1 ≡ 0 * 1 * down e = eqb→eq (m * up e * 1) (0 * 1 * down e) (and_l (eqb (m * up e * 1) (0 * 1 * down e)) (eqb (m * up e * 1) 0) h) in
    (le_of_val zero64 (fin true m e) tt tt (omega arith), le_of_val (fin true m e) one64 tt tt (omega arith))

pub weighed_unit : (w : ClientWorldSimulations) → Weighed w → T (le zero64 w.weight) × T (le w.weight one64)
weighed_unit w (is_nought h) = nought_low w.weight h
weighed_unit w (is_even e a b) = (a, b)

-- and within 1
unit_within : (x : Float) → T (le zero64 x) → T (le x one64) → Within x 1
unfolding le
unit_within x a b =
    within_of_tests x (fin true 1 (pos 0)) one64 1 (between_finite zero64 x one64 tt tt a b) (refl, refl) (refl, refl)
    (float_le_trans (fin true 1 (pos 0)) zero64 x tt a) b

-- moved on by a progress within 1,024 it is from 0 to 1
clamped_unit : (x p : Float) → T (le zero64 x) → T (le x one64) → Within p 1024
    → T (le zero64 (clamped_of (add binary64 x p))) × T (le (clamped_of (add binary64 x p)) one64)
clamped_unit x p a b h = clamp_unit (add binary64 x p) (add_within x p 1 1024 (lit< tt) (unit_within x a b) h).0

-- a reset of the new world to the old stamp
reset_new_weighed : (s : Scene) → Weighed s.worlds → Weighed (reset_new s).scene.worlds
unfolding reset_new
reset_new_weighed s h = go h
  where
    go : Weighed s.worlds → Weighed (done_at s (new_side_of s.worlds)
        (reset_of (world_of s.worlds (new_side_of s.worlds)) (old_stamp_of s.worlds) (new_side_of s.worlds))).scene.worlds
    go (is_nought z) = is_nought (subst (λ (t : Float). T (eq t zero64)) (sym (done_weight s _ _)) z)
    go (is_even e a b) =
        let side = new_side_of s.worlds in
        let d = reset_of (world_of s.worlds side) (old_stamp_of s.worlds) side in
        let o = ap old_stamp_of (done_worlds s side d) ∙ old_at_new s.worlds d.world in
        let n = ap new_stamp_of (done_worlds s side d) ∙ new_at_new s.worlds d.world
        ∙ reset_stamp (world_of s.worlds side) (old_stamp_of s.worlds) side in
        is_even (ap (λ (x : Timestamp). x.0) (o ∙ sym n)) (subst (λ (t : Float). T (le zero64 t)) (sym (done_weight s side d)) a)
        (subst (λ (t : Float). T (le t one64)) (sym (done_weight s side d)) b)

-- a weight that moves on
blended_weighed : (s : Scene) (p t : Float) → Within p 1024 → status_of s.worlds ≡ Blending t → Weighed s.worlds → Weighed (blended_on s p).worlds
unfolding blended_on
blended_weighed s p t i e h =
    let u = weighed_unit s.worlds h in
    let c = clamped_unit s.worlds.weight p u.0 u.1 i in
    weight_weighed s.worlds (clamped_of (add binary64 s.worlds.weight p)) (blending_even s.worlds t e) c.0 c.1

-- the parts of a frame of at least one catch-up step
weighed_parts : (rules : Rules) → 1 ≤ rules.m → Within rules.progress 1024 → Parts (Keeps Weighed) rules 0 0 0
weighed_parts rules l i =
    record {
      chains = keeps_chains Weighed;
      loads = λ s side t h b k. loaded_weighed s side t h;
      resets = reset_new_weighed;
      blends = λ s t e. blended_weighed s rules.progress t i e;
      simulates = λ s. simulated_weighed rules.m s l;
      shows = λ s l w. published_weighed s.worlds _;
    }

-- ---- a skip

-- the new world goes along where the stamps are equal: the side of each world stays, and the new stamp is t
along_even : (s : Scene) (t : Timestamp) → (old_stamp_of s.worlds).0 ≡ (new_stamp_of s.worlds).0 → reset_along s t ≡ reset_side s (new_side_of s.worlds) t
unfolding reset_along
along_even s t e = ap (λ (b : Bool). cond b (reset_side s (new_side_of s.worlds) t) (still s))
    (eq-eqb (new_stamp_of s.worlds).0 (old_stamp_of s.worlds).0 (sym e))

both_weight : (s : Scene) (t : Timestamp) → (reset_both s t).scene.worlds.weight ≡ s.worlds.weight
both_weight s t = both_by_lem {reset = 0} weight_steps.chains (λ u side x l. done_weight u side (reset_of (world_of u.worlds side) x side)) s t

-- equal stamps are both t after it
both_even : (s : Scene) (t : Timestamp) → (old_stamp_of s.worlds).0 ≡ (new_stamp_of s.worlds).0
    → old_stamp_of (reset_both s t).scene.worlds ≡ new_stamp_of (reset_both s t).scene.worlds
unfolding reset_both and_then reset_side
both_even s t e =
    let n = new_side_of s.worlds in
    let d = reset_of (world_of s.worlds n) t n in
    let u = (done_at s n d).scene in
    let a : reset_along s t ≡ done_at s n d = along_even s t e in
    let b : old_side_of s.worlds ≡ old_side_of u.worlds = sym (ap old_side_of (done_worlds s n d) ∙ put_old_side s.worlds n d.world) in
    let o = old_side_of u.worlds in
    let f = reset_of (world_of u.worlds o) t o in
    let c : (reset_side (reset_along s t).scene (old_side_of s.worlds) t).scene ≡ (done_at u o f).scene =
    ap (λ (p : Played). (reset_side p.scene (old_side_of s.worlds) t).scene) a ∙ ap (λ (x : ℕ). (done_at u x (reset_of (world_of u.worlds x) t x)).scene) b in
    let x : new_stamp_of u.worlds ≡ t = ap new_stamp_of (done_worlds s n d) ∙ new_at_new s.worlds d.world ∙ reset_stamp (world_of s.worlds n) t n in
    let y : old_stamp_of (done_at u o f).scene.worlds ≡ t = ap old_stamp_of (done_worlds u o f) ∙ old_at_old u.worlds f.world
    ∙ reset_stamp (world_of u.worlds o) t o in
    let z : new_stamp_of (done_at u o f).scene.worlds ≡ t = ap new_stamp_of (done_worlds u o f) ∙ new_at_old u.worlds f.world ∙ x in
    ap (λ (v : Scene). old_stamp_of v.worlds) c ∙ y ∙ sym z ∙ sym (ap (λ (v : Scene). new_stamp_of v.worlds) c)

both_weighed : (s : Scene) (t : Timestamp) → Weighed s.worlds → Weighed (reset_both s t).scene.worlds
both_weighed s t (is_nought h) = is_nought (subst (λ (x : Float). T (eq x zero64)) (sym (both_weight s t)) h)
both_weighed s t (is_even e a b) =
    is_even (ap (λ (x : Timestamp). x.0) (both_even s t e)) (subst (λ (x : Float). T (le zero64 x)) (sym (both_weight s t)) a)
    (subst (λ (x : Float). T (le x one64)) (sym (both_weight s t)) b)

emptied_base_weighed : (b : Bool) (s : Scene) → Weighed s.worlds → Weighed (emptied_base b s).worlds
emptied_base_weighed true s k = base_weighed s.worlds (emptied_of s.worlds.base) k
emptied_base_weighed false s k = k

skip_weighed : (s : Scene) (t : Timestamp) → Weighed s.worlds → Weighed (skipped_of s t).scene.worlds
unfolding skipped_of
skip_weighed s t h = emptied_base_weighed (skips_back t (old_stamp_of s.worlds)) (reset_both s t).scene (both_weighed s t h)

-- what every update ends with
post_weighed : (w : ClientWorldSimulations) (t : Float) (lag : ℕ) → Weighed w → Weighed (post_update_of w t lag)
unfolding post_update_of old_stamp_of new_stamp_of old_side_of new_side_of world_of
post_weighed w t lag h = weighed_as (post_update_of w t lag) w refl refl refl h

-- the parts of an update
pub weighed_updates : (c : Settings) → 1 ≤ c.m → Within (blend_progress_of c) 1024 → Updates (Keeps Weighed) c 0 0
weighed_updates c l i =
    record {
      chains = keeps_chains Weighed;
      frames = frame_by (weighed_parts (rules_of c) l i);
      skips = skip_weighed;
      ends = λ s t lag. post_weighed s.worlds t lag;
    }
