-- A level frame: both worlds make one step that moves their stamps only. Assumes nothing.
use Rattle.std.specs.Ordering.{is_ge}
use Rattle.std.proofs.Common.{◌≡◌, ℕ, zero, suc, ◌+◌, ◌%◌, ◌^◌, Bool, true, false, not, eqb, [], ◌∷◌, sym, refl, ap, ◌∙◌, arith}
use Rattle.std.proofs.Common.{eqb-true, Option, Some, None}
use lib.Ieee.{Float, binary64, add}
use borrow.Author.Tests.{eqb-false, not-true}
use Rattle.std.specs.declared.cmp.Ordering.TheVariants.{Less, Equal}
use Rattle.timestamp.specs.declared.Timestamp.{Timestamp}
use Rattle.timestamp.specs.Timestamps.{sum_of, difference_of, signed_of, sign_of, order_of}
use Rattle.timestamp.specs.Floats.{clamped_of}
use Rattle.timestamp.proofs.Tests.{apart}
use Rattle.tape.specs.declared.Tape.{Tape}
use Rattle.tape.specs.Sides.{is_left}
use Rattle.tape.specs.Tape.{PutsOn}
use Rattle.tape.specs.Words.{step_word}
use Rattle.command.specs.Buffer.{around}
use Rattle.simulation.specs.declared.Simulation.{Simulation}
use Rattle.simulation.specs.World.{world_with, next_stamp}
use Rattle.simulation.proofs.Waiting.{moved_on, step_waits}
use Rattle.client.specs.declared.ReconciliationStatus.{ReconciliationStatus}
use Rattle.client.specs.declared.ReconciliationStatus.TheVariants.{AwaitingSnapshot, Fastforwarding, Blending}
use Rattle.client.specs.declared.QueuedSnapshot.{QueuedSnapshot}
use Rattle.client.specs.declared.ClientWorldSimulations.{ClientWorldSimulations}
use Rattle.client.specs.declared.Ledger.{Ledger}
use Rattle.client.specs.declared.Scene.{Scene}
use Rattle.client.specs.Ledgers.{applies}
use Rattle.client.specs.Sides.{new_side_of, old_side_of, world_of, with_world, with_weight, with_worlds, with_ledger, ledger_of, world_stamp_of}
use Rattle.client.specs.Sides.{old_stamp_of, new_stamp_of}
use Rattle.client.specs.Sides.{put_of, Played, still, and_then, done_at, Plays, with_left, with_right, with_ledgers, with_steps}
use Rattle.client.specs.Status.{status_by, status_of}
use Rattle.client.proofs.Happening.{plays_as, plays_then}
use Rattle.client_publish.specs.Publish.{with_state, published_blended}
use Rattle.client_publish.specs.Inner.{States}
use Rattle.client_publish.proofs.Telling.{Telling, publishes, blended_by_lem}
use Rattle.client_frame.specs.declared.Rules.{Rules}
use Rattle.client_frame.specs.Frame.{loads_of, loaded_queued, blended_on, opened_of, stepped_side, caught_up_of, with_step, stepped_new, caught_of}
use Rattle.client_frame.specs.Frame.{simulated_of}
use Rattle.client_frame.specs.Frame.{blended_by, shown_of, stops_of, snapshot_of, frame_opened, frame_of, frame_stops}
use Rattle.client_frame.proofs.Framing.{stated_plays}
use Rattle.client_frame.proofs.Catching.{turn, stop}
use Rattle.client_level.specs.Level.{world_waits, level_by, is_level, level_weight, level_words, put_back}

-- ---- the tests

-- a status that leaves both worlds level is one of equal stamps
even_by : (e l v n : Bool) (t : Float) (q : Option QueuedSnapshot) → level_by (status_by e l v n t) q ≡ true → e ≡ true
even_by true l v n t q h = refl
even_by false l true n t q h = h
even_by false l false true t q h = h
even_by false l false false t q h = h

status_even : (w : ClientWorldSimulations) (q : Option QueuedSnapshot) → level_by (status_of w) q ≡ true → (new_stamp_of w).0 ≡ (old_stamp_of w).0
unfolding status_of
status_even w q h = eqb-true _ _ (even_by (eqb (new_stamp_of w).0 (old_stamp_of w).0) _ _ _ _ q h)

-- a status blends by the worlds' weight
weight_by : (e l v n : Bool) (t : Float) {x : Float} → status_by e l v n t ≡ Blending x → x ≡ t
weight_by true true v n t h = cc
weight_by true false v n t h = cc
weight_by false l true n t h = cc
weight_by false l false true t h = cc
weight_by false l false false t h = cc

status_weight : (w : ClientWorldSimulations) {x : Float} → status_of w ≡ Blending x → x ≡ w.weight
unfolding status_of
status_weight w h = weight_by (eqb (new_stamp_of w).0 (old_stamp_of w).0) _ _ _ w.weight h

-- the parts of the test of a level frame
pub record Level (w : ClientWorldSimulations) (m : ℕ) : Type 0 where
  pub some : m ≡ 0 → ⊥
  pub status : level_by (status_of w) w.snapshots.queued ≡ true
  pub stamps : (new_stamp_of w).0 ≡ (old_stamp_of w).0
  pub left : world_waits w.left ≡ true
  pub right : world_waits w.right ≡ true

pub level_parts : (w : ClientWorldSimulations) (m : ℕ) → is_level w m ≡ true → Level w m
unfolding is_level
level_parts w m h =
    let a = apart (not (eqb m 0)) _ h in
    let b = apart (level_by (status_of w) w.snapshots.queued) _ a.1 in
    let c = apart (world_waits w.left) _ b.1 in
    record {
      some = eqb-false _ _ (not-true _ a.0);
      status = b.0;
      stamps = status_even w _ b.0;
      left = c.0;
      right = c.1;
    }

-- ---- both worlds step

-- a stamp is behind the next one
stamp_behind : (t : ℕ) → order_of t (sum_of t 1) ≡ Less
unfolding order_of signed_of
stamp_behind t =
    let e : difference_of t (sum_of t 1) ≡ 65535 = omega arith in
    ap (λ (d : ℕ). sign_of (signed_of d)) e

-- and level with itself
stamp_level : (t : ℕ) → order_of (sum_of t 1) (sum_of t 1) ≡ Equal
unfolding order_of signed_of
stamp_level t =
    let e : difference_of (sum_of t 1) (sum_of t 1) ≡ 0 = omega arith in
    ap (λ (d : ℕ). sign_of (signed_of d)) e

-- a world a step behind has not caught up
one_behind : (n o t : Timestamp) → n.0 ≡ t.0 → o ≡ next_stamp t → caught_up_of n o ≡ false
unfolding caught_up_of
one_behind n o t hn ho =
    let e : order_of n.0 o.0 ≡ Less = (λ i. order_of (hn i) (ho i).0) ∙ stamp_behind t.0 in
    ap is_ge e

-- and after its step it has
none_behind : (n o t u : Timestamp) → n ≡ next_stamp t → o ≡ next_stamp u → t.0 ≡ u.0 → caught_up_of n o ≡ true
unfolding caught_up_of
none_behind n o t u hn ho e =
    let eq : order_of n.0 o.0 ≡ Equal = (λ i. order_of (hn i).0 (ho i).0) ∙ ap (λ (x : ℕ). order_of (sum_of x 1) (sum_of u.0 1)) e ∙ stamp_level u.0 in
    ap is_ge eq

-- the step of a side whose buffer waits
waited_side : (s : Scene) (side : ℕ) → world_waits (world_of s.worlds side) ≡ true
    → stepped_side s side ≡ record { scene = put_of s side (moved_on (world_of s.worlds side)) 0 0; words = step_word side ∷ [] }
unfolding stepped_side done_at
waited_side s side h = ap (done_at s side) (step_waits (world_of s.worlds side) side h)

-- the scene after the old world's step
unfoldable mid_scene : Scene → Scene
mid_scene s = put_of s (old_side_of s.worlds) (moved_on (world_of s.worlds (old_side_of s.worlds))) 0 0

-- the worlds with both stamps moved on
abbrev moved_both : ClientWorldSimulations → ClientWorldSimulations
moved_both w = with_left (with_right w (moved_on w.right)) (moved_on w.left)

-- the scene after both worlds' steps
abbrev levelled : Scene → Scene
levelled s = with_step (with_ledgers (with_worlds s (moved_both s.worlds)) (applies s.left 0 0) (applies s.right 0 0))

-- what the steps of a level frame leave of the sides
record Sides (s : Scene) : Type 0 where
  side : new_side_of (mid_scene s).worlds ≡ new_side_of s.worlds
  world : world_of (mid_scene s).worlds (new_side_of s.worlds) ≡ world_of s.worlds (new_side_of s.worlds)
  new : new_stamp_of (mid_scene s).worlds ≡ new_stamp_of s.worlds
  old : old_stamp_of (mid_scene s).worlds ≡ next_stamp (old_stamp_of s.worlds)
  last : new_stamp_of (levelled s).worlds ≡ next_stamp (new_stamp_of s.worlds)
  client : old_stamp_of (levelled s).worlds ≡ next_stamp (old_stamp_of s.worlds)
  scene : with_step (put_of (mid_scene s) (new_side_of s.worlds) (moved_on (world_of s.worlds (new_side_of s.worlds))) 0 0) ≡ levelled s

sides_by_lem : (b : Bool) (s : Scene) → is_left s.worlds.new ≡ b → Sides s
unfolding mid_scene put_of new_side_of old_side_of world_of with_world with_ledger ledger_of old_stamp_of new_stamp_of
sides_by_lem true s e = record { side = simp e; world = simp e; new = simp e; old = simp e; last = simp e; client = simp e; scene = simp e }
sides_by_lem false s e = record { side = simp e; world = simp e; new = simp e; old = simp e; last = simp e; client = simp e; scene = simp e }

-- a buffer of either side waits
side_waits_by : (b : Bool) (w : ClientWorldSimulations) (side : ℕ) → eqb side 0 ≡ b → world_waits w.left ≡ true → world_waits w.right ≡ true
    → world_waits (world_of w side) ≡ true
unfolding world_of
side_waits_by true w side e l r = rw e l
side_waits_by false w side e l r = rw e r

-- the stamps of left and right are those of new and old, or the other way round
stamps_by_lem : (b : Bool) (w : ClientWorldSimulations) → is_left w.new ≡ b → (new_stamp_of w).0 ≡ (old_stamp_of w).0
    → (world_stamp_of w.left).0 ≡ (world_stamp_of w.right).0
unfolding new_stamp_of old_stamp_of world_of new_side_of old_side_of
stamps_by_lem true w e h = rw e at h
stamps_by_lem false w e h = sym (rw e at h)

module _ (s : Scene) (same : (new_stamp_of s.worlds).0 ≡ (old_stamp_of s.worlds).0) (left : world_waits s.worlds.left ≡ true)
    (right : world_waits s.worlds.right ≡ true) where
  -- the sides of the two steps
  sides : Sides s
  sides = sides_by_lem (is_left s.worlds.new) s refl

  -- the world of either side waits
  waiting : (side : ℕ) → world_waits (world_of s.worlds side) ≡ true
  waiting side = side_waits_by (eqb side 0) s.worlds side refl left right

  -- the old world's step
  old_step : stepped_side s (old_side_of s.worlds) ≡ record { scene = mid_scene s; words = step_word (old_side_of s.worlds) ∷ [] }
  unfolding mid_scene
  old_step = waited_side s (old_side_of s.worlds) (waiting (old_side_of s.worlds))

  -- the new world's step
  new_step : stepped_new (mid_scene s) ≡ record { scene = levelled s; words = step_word (new_side_of s.worlds) ∷ [] }
  unfolding stepped_new
  new_step =
      let k : ℕ = new_side_of s.worlds in
      let m : Scene = mid_scene s in
      let one : stepped_side m (new_side_of m.worlds) ≡ stepped_side m k = ap (stepped_side m) sides.side in
      let two : stepped_side m k ≡ record { scene = put_of m k (moved_on (world_of m.worlds k)) 0 0; words = step_word k ∷ [] } =
      waited_side m k (ap (λ (x : Simulation). world_waits x) sides.world ∙ waiting k) in
      let all : stepped_side m (new_side_of m.worlds) ≡ record { scene = put_of m k (moved_on (world_of s.worlds k)) 0 0; words = step_word k ∷ [] } =
      one ∙ two ∙ (λ i. record { scene = put_of m k (moved_on (sides.world i)) 0 0; words = step_word k ∷ [] }) in
      (λ i. record { scene = with_step (all i).scene; words = (all i).words }) ∙ (λ i. record { scene = sides.scene i; words = step_word k ∷ [] })

  -- the new world catches up with that one step
  one_caught : (n : ℕ) → caught_of (suc n) (old_stamp_of (mid_scene s).worlds) (mid_scene s) ≡ record
      { scene = levelled s; words = step_word (new_side_of s.worlds) ∷ [] }
  unfolding and_then
  one_caught n =
      let o : Timestamp = old_stamp_of (mid_scene s).worlds in
      let new : new_stamp_of (mid_scene s).worlds ≡ new_stamp_of s.worlds = sides.new in
      let no : caught_up_of (new_stamp_of (mid_scene s).worlds) o ≡ false =
      one_behind _ o (old_stamp_of s.worlds) (ap (λ (x : Timestamp). x.0) new ∙ same) sides.old in
      let yes : caught_up_of (new_stamp_of (levelled s).worlds) o ≡ true = none_behind _ o (new_stamp_of s.worlds) (old_stamp_of s.worlds) sides.last
      sides.old same in
      sym (turn n o (mid_scene s) no) ∙ ap (λ (p : Played). and_then p (caught_of n o)) new_step
      ∙ (λ i. record {
        scene = (sym (stop n o (levelled s) yes) i).scene;
        words = step_word (new_side_of s.worlds) ∷ (sym (stop n o (levelled s) yes)
            i).words;
      })

  -- both steps
  both_step : (n : ℕ) → simulated_of (suc n) s ≡ record { scene = levelled s; words = level_words s.worlds }
  unfolding simulated_of and_then level_words
  both_step n =
      ap (λ (p : Played). and_then p (λ (t : Scene). caught_of (suc n) (old_stamp_of t.worlds) t)) old_step
      ∙ (λ i. record { scene = (one_caught n i).scene; words = step_word (old_side_of s.worlds) ∷ (one_caught n i).words })

-- ---- what is published

-- what happens leaves the client's stamp
record Stays (s : Scene) (p : Played) : Type 0 where
  stamp : old_stamp_of p.scene.worlds ≡ old_stamp_of s.worlds

-- a state
state_stays : (s : Scene) (l : Option Timestamp) (w : Telling) → Stays s (publishes s l w)
unfolding old_stamp_of world_of old_side_of
state_stays s l w = record { stamp = refl }

-- what is published by the weight
published_stays : (s : Scene) → Stays s (published_blended s)
published_stays s = blended_by_lem (Stays s) s (state_stays s)

-- ---- the frame

-- the scene with the weight of the frame
abbrev reweighted : Float → Scene → Scene
reweighted p s = with_worlds s (with_weight s.worlds (level_weight (status_of s.worlds) s.worlds.weight p))

-- a world with another stamp
abbrev stamped_at : Simulation → Timestamp → Simulation
stamped_at w n = world_with (around n w.commands) w.init

-- the scene with a stamp of each world, a weight, ledgers and steps
abbrev level_at : Scene → Timestamp → Timestamp → Float → Ledger → Ledger → ℕ → Scene
level_at s n o t l r k = with_steps (with_ledgers (with_worlds s (with_weight
    (with_left (with_right s.worlds (stamped_at s.worlds.right o)) (stamped_at s.worlds.left n)) t)) l r) k

-- the same stamp for both
abbrev level_with : Scene → Timestamp → Float → Ledger → Ledger → ℕ → Scene
level_with s n t l r k = level_at s n n t l r k

-- what a level frame begins with: the weight moves on or not, it publishes by the weight, and it does not stop
record Opens (rules : Rules) (s : Scene) : Type 0 where
  begins : frame_opened rules s ≡ still (reweighted rules.progress s)
  blended : blended_by (status_of s.worlds) (snapshot_of s) ≡ true
  goes : (e : ClientWorldSimulations) → stops_of (status_of s.worlds) (snapshot_of s) s.worlds e ≡ false

-- by the status and what is queued
opens_by : (t : ReconciliationStatus) (q : Option QueuedSnapshot) (rules : Rules) (s : Scene) → status_of s.worlds ≡ t → s.worlds.snapshots.queued ≡ q
    → level_by t q ≡ true → Opens rules s
unfolding frame_opened opened_of blended_on loaded_queued stops_of snapshot_of level_weight
opens_by AwaitingSnapshot None rules s t e h =
    let p : Float = rules.progress in
    let q : snapshot_of s ≡ None = (λ i. loads_of (t i) (e i)) in
    record {
      begins = (λ i. opened_of (t i) (q i) p s) ∙ (λ i. still (with_worlds s (with_weight s.worlds (level_weight (sym t i) s.worlds.weight p))));
      blended = (λ i. blended_by (t i) (q i));
      goes = λ x. (λ i. stops_of (t i) (q i) s.worlds x);
    }
opens_by AwaitingSnapshot (Some q) rules s t e h = let z : ◌≡◌ {A = ℕ} 0 1 = cc in absurd (omega arith)
opens_by (Blending x) q rules s t e h =
    let p : Float = rules.progress in
    let w : s.worlds.weight ≡ x = sym (status_weight s.worlds t) in
    record {
      begins = (λ i. opened_of (t i) (snapshot_of s) p s)
          ∙ (λ i. still (with_worlds s (with_weight s.worlds (clamped_of (add binary64 (w i) p)))))
          ∙ (λ i. still (with_worlds s (with_weight s.worlds (level_weight (sym t i) s.worlds.weight p))));
      blended = (λ i. blended_by (t i) (snapshot_of s));
      goes = λ y. (λ i. stops_of (t i) (snapshot_of s) s.worlds y);
    }
opens_by (Fastforwarding f) q rules s t e h = let z : ◌≡◌ {A = ℕ} 0 1 = cc in absurd (omega arith)

module _ (rules : Rules) (s : Scene) (level : is_level s.worlds rules.m ≡ true) where
  -- its parts
  parts : Level s.worlds rules.m
  parts = level_parts s.worlds rules.m level

  opens : Opens rules s
  opens = opens_by (status_of s.worlds) s.worlds.snapshots.queued rules s refl refl parts.status

  -- the Rust does not stop in a level frame
  pub level_stops : frame_stops rules s ≡ false
  unfolding frame_stops
  level_stops = opens.goes (frame_of rules s).scene.worlds

  -- the steps of a level frame
  level_steps : (k : ℕ) → rules.m ≡ k → simulated_of k (reweighted rules.progress s) ≡ record
      { scene = levelled (reweighted rules.progress s); words = level_words s.worlds }
  unfolding level_words new_side_of old_side_of new_stamp_of old_stamp_of world_of
  level_steps zero e = absurd (parts.some e)
  level_steps (suc n) e = both_step (reweighted rules.progress s) parts.stamps parts.left parts.right n

  -- a level frame: both stamps move on, and the worlds are published by the weight
  level_frame : and_then (record { scene = levelled (reweighted rules.progress s); words = level_words s.worlds }) published_blended ≡ frame_of rules s
  unfolding frame_of shown_of and_then
  level_frame =
      sym
      ((λ i. and_then (opens.begins i) (shown_of rules.m (opens.blended i)))
      ∙ (λ i. and_then (level_steps rules.m refl i) published_blended))

  -- the client's stamp moves by one in a level frame
  pub level_stamp : (old_stamp_of (frame_of rules s).scene.worlds).0 ≡ sum_of (old_stamp_of s.worlds).0 1
  unfolding and_then old_stamp_of world_of old_side_of
  level_stamp =
      let all : old_stamp_of (frame_of rules s).scene.worlds ≡ next_stamp (old_stamp_of s.worlds) =
      ap (λ (x : Played). old_stamp_of x.scene.worlds) (sym level_frame) ∙ (published_stays (levelled (reweighted rules.progress s))).stamp
      ∙ (sides_by_lem (is_left s.worlds.new) (reweighted rules.progress s) refl).client in
      ap (λ (x : Timestamp). x.0) all

  -- the scene of a level frame as the code builds it: the stamp n, the weight t, the ledgers l and r, and the steps k
  level_scene : {n : Timestamp} {t : Float} {l r : Ledger} {k : ℕ}
      → n.0 ≡ sum_of (world_stamp_of s.worlds.left).0 1 → t ≡ level_weight (status_of s.worlds) s.worlds.weight rules.progress
      → l ≡ applies s.left 0 0 → r ≡ applies s.right 0 0 → k ≡ (s.steps + 1) % 2 ^ 32
      → level_with s n t l r k ≡ levelled (reweighted rules.progress s)
  level_scene {n} hn ht hl hr hk =
      let right : n.0 ≡ sum_of (world_stamp_of s.worlds.right).0 1 = hn
      ∙ ap (λ (x : ℕ). sum_of x 1) (stamps_by_lem (is_left s.worlds.new) s.worlds refl parts.stamps) in
      (λ i. level_at s (record { 0 = hn i }) (record { 0 = right i }) (ht i) (hl i) (hr i) (hk i))

  -- a level frame as the code leaves it
  pub level_plays : {f : ReconciliationStatus} {n : Timestamp} {t : Float} {l r : Ledger} {k : ℕ} {was mid now : Tape} {a : Option Timestamp} {u : Scene}
      → f ≡ status_of s.worlds → PutsOn was (level_words s.worlds) mid
      → n.0 ≡ sum_of (world_stamp_of s.worlds.left).0 1 → t ≡ level_weight f s.worlds.weight rules.progress → l ≡ applies s.left 0 0
      → r ≡ applies s.right 0 0 → k ≡ (s.steps + 1) % 2 ^ 32
      → States (published_blended (level_with s n t l r k)) (level_with s n t l r k) mid a now → u ≡ with_state (level_with s n t l r k) a
      → Plays (frame_of rules s) was u now
  level_plays {f} {n} {t} {l} {r} {k} {was} {mid} hf hp hn ht hl hr hk ha hu =
      let e : Scene = level_with s n t l r k in
      let weight : t ≡ level_weight (status_of s.worlds) s.worlds.weight rules.progress = ht
      ∙ ap (λ (x : ReconciliationStatus). level_weight x s.worlds.weight rules.progress) hf in
      let steps : Plays (record { scene = levelled (reweighted rules.progress s); words = level_words s.worlds }) was
      e mid = record { scene = level_scene hn weight hl hr hk; puts = hp } in
      plays_as level_frame (plays_then published_blended steps (stated_plays e ha hu))

-- ---- a world put back

-- a world that is put back with its ledger, counted
pub put_back_is : (s : Scene) (side : ℕ) (w : Simulation) (n k : ℕ) {l x : Ledger} {u : Scene} → l ≡ ledger_of s side → x ≡ applies l n k
    → u ≡ put_back s side w x s.steps → u ≡ put_of s side w n k
unfolding put_back put_of
put_back_is s side w n k hl hx hu = hu ∙ (λ i. put_back s side w ((hx ∙ ap (λ (y : Ledger). applies y n k) hl) i) s.steps)
