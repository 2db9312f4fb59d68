-- One frame: what it opens with, by its status, and then the worlds' steps. Assumes nothing.
use mathlib.Core.Path.{◌≡◌, refl, ap, ◌∙◌}
use mathlib.Core.Bool.{Bool, true, false}
use mathlib.Core.List.{[]}
use Prim.Native.Nat.{ℕ, ◌+◌, ◌-◌, ◌^◌, ◌<◌, ◌≤◌}
use native.Mathlib.Omega.{arith}
use borrow.Author.Tests.{eqb-true}
use lib.Dec.{eqb}
use lib.Ieee.{Float, lt, fin}
use lib.IntN.{pos}
use Rattle.timestamp.specs.declared.Timestamp.{Timestamp}
use Rattle.tape.specs.Words.{steps_on}
use Rattle.tape.proofs.Counting.{steps_on_snapshot}
use Rattle.command.specs.declared.CommandBuffer.{CommandBuffer}
use Rattle.command.specs.Buffer.{rest_of}
use Rattle.command.proofs.Ledger.{moved_stamp}
use Rattle.simulation.specs.declared.Simulation.{Simulation}
use Rattle.simulation.specs.World.{reset_of, load_of}
use Rattle.client.specs.declared.FastforwardingHealth.TheVariants.{Healthy, Obsolete, Overshot}
use Rattle.client.specs.declared.ReconciliationStatus.{ReconciliationStatus}
use Rattle.client.specs.declared.ReconciliationStatus.TheVariants.{AwaitingSnapshot, Fastforwarding, Blending}
use Rattle.client.specs.declared.QueuedSnapshot.{QueuedSnapshot}
use Rattle.std.specs.Prelude.{Option, Some, None}
use Rattle.tape.specs.Sides.{is_left}
use Rattle.client.specs.declared.ClientWorldSimulations.{ClientWorldSimulations}
use Rattle.client.specs.declared.Scene.{Scene}
use Rattle.client.specs.Sides.{new_side_of, old_side_of, world_of, with_world, with_worlds, world_stamp_of, old_stamp_of, new_stamp_of, Played, still}
use Rattle.client.specs.Sides.{and_then, done_at}
use Rattle.client.specs.Status.{status_by, status_of, overshot_of, newer_of}
use Rattle.client_frame.specs.declared.Rules.{Rules}
use Rattle.client_load.specs.Load.{readied_with, loaded_at, loaded_of}
use Rattle.client_frame.specs.Frame.{loads_of, loaded_queued, blended_on, reset_new, opened_of, snapshot_of, frame_opened, shown_of}
use Rattle.client_frame.specs.Frame.{blended_by, frame_of}
use Rattle.session_laws.proofs.SoundWorlds.{done_worlds, reset_stamp}
use Rattle.session_laws.proofs.TraceStamps.{lag_of, next_of, next_is, next_below, lag_far, later_tells, Restamped, put_at_new, ledger_keeps, done_steps_lem}
use Rattle.session_laws.proofs.TraceStamps.{done_words, reset_marks}
use Rattle.session_laws.proofs.TraceSteps.{lag_in, then_scene, then_marks, Simulates, shown}

-- a queued snapshot's stamp has 16 bits
abbrev pub QueuedFits : Option QueuedSnapshot → Type 0
QueuedFits None = Unit {0}
QueuedFits (Some q) = q.stamp.0 < 65536

-- the stamps of a client's worlds, and of the snapshot that waits, have 16 bits
pub record Fitting (w : ClientWorldSimulations) : Type 0 where
  pub old : (old_stamp_of w).0 < 65536
  pub new : (new_stamp_of w).0 < 65536
  pub queued : QueuedFits w.snapshots.queued

-- from where the catching up starts: how far behind the snapshot is that is loaded, or else the new world
abbrev pub gap_by : Option QueuedSnapshot → ℕ → ℕ → ℕ
gap_by None o b = b
gap_by (Some q) o b = lag_of o q.stamp.0

-- ---- what a status tells

status_equal : (a b c d : Bool) (t : Float) → status_by a b c d t ≡ AwaitingSnapshot → a ≡ true
status_equal true b c d t e = refl
status_equal false b true d t e = absurd (let z : ◌≡◌ {A = ℕ} 0 1 = cc in omega arith)
status_equal false b false true t e = absurd (let z : ◌≡◌ {A = ℕ} 0 1 = cc in omega arith)
status_equal false b false false t e = absurd (let z : ◌≡◌ {A = ℕ} 0 1 = cc in omega arith)

status_later : (a b c d : Bool) (t : Float) → status_by a b c d t ≡ Fastforwarding Overshot → c ≡ true
status_later true true c d t e = absurd (let z : ◌≡◌ {A = ℕ} 0 1 = cc in omega arith)
status_later true false c d t e = absurd (let z : ◌≡◌ {A = ℕ} 0 1 = cc in omega arith)
status_later false b true d t e = refl
status_later false b false true t e = absurd (let z : ◌≡◌ {A = ℕ} 0 1 = cc in omega arith)
status_later false b false false t e = absurd (let z : ◌≡◌ {A = ℕ} 0 1 = cc in omega arith)

-- a client that awaits a snapshot has equal stamps
pub awaiting_equal : (w : ClientWorldSimulations) → status_of w ≡ AwaitingSnapshot → (new_stamp_of w).0 ≡ (old_stamp_of w).0
unfolding status_of
awaiting_equal w e =
    eqb-true (new_stamp_of w).0 (old_stamp_of w).0
    (status_equal (eqb (new_stamp_of w).0 (old_stamp_of w).0) (lt w.weight (fin false 1 (pos 0))) (overshot_of (new_stamp_of w) (old_stamp_of w))
    (newer_of w.snapshots.queued (new_stamp_of w)) w.weight e)

overshot_later : (w : ClientWorldSimulations) → status_of w ≡ Fastforwarding Overshot → overshot_of (new_stamp_of w) (old_stamp_of w) ≡ true
unfolding status_of
overshot_later w e =
    status_later (eqb (new_stamp_of w).0 (old_stamp_of w).0) (lt w.weight (fin false 1 (pos 0))) (overshot_of (new_stamp_of w) (old_stamp_of w))
    (newer_of w.snapshots.queued (new_stamp_of w)) w.weight e

-- a new world that has overshot is more than half a cycle behind
pub overshot_far : (w : ClientWorldSimulations) → Fitting w → status_of w ≡ Fastforwarding Overshot → 32767 < lag_in w
unfolding overshot_of
overshot_far w h e =
    let p = later_tells (new_stamp_of w) (old_stamp_of w) (overshot_later w e) in
    lag_far (old_stamp_of w).0 (new_stamp_of w).0 h.old h.new p.1 p.0

-- ---- what a frame opens with

-- the old stamp stays, the new one is where the catching up starts, and no step word is put
pub record Opens (q : Option QueuedSnapshot) (s : Scene) (p : Played) : Type 0 where
  pub old : (old_stamp_of p.scene.worlds).0 ≡ (old_stamp_of s.worlds).0
  pub fitting : Fitting s.worlds → QueuedFits q → Fitting p.scene.worlds
  pub behind : Fitting s.worlds → gap_by q (old_stamp_of s.worlds).0 (lag_in s.worlds) ≤ 32767
      → lag_in p.scene.worlds ≡ gap_by q (old_stamp_of s.worlds).0 (lag_in s.worlds)
  pub steps : p.scene.steps ≡ s.steps
  pub none : (y : ℕ) → steps_on y p.words ≡ 0

opens_still : (s : Scene) → Opens None s (still s)
unfolding steps_on
opens_still s = record { old = refl; fitting = λ h k. h; behind = λ f l. refl; steps = refl; none = λ y. refl }

-- the weight moves on
opens_blended : (s : Scene) (p : Float) → Opens None s (still (blended_on s p))
unfolding blended_on steps_on old_stamp_of new_stamp_of old_side_of new_side_of world_of
opens_blended s p =
    record { old = refl; fitting = λ h k. record { old = h.old; new = h.new; queued = h.queued }; behind = λ f l. refl; steps = refl; none = λ y. refl }

-- ---- a load

-- a world is put at a side, which is then new
module _ (w : ClientWorldSimulations) (b : CommandBuffer) (W : Simulation) where
  loaded_by : (x : ℕ) (c : Bool) → eqb x 0 ≡ c → new_stamp_of (with_world (readied_with w x b) x W) ≡ world_stamp_of W
  unfolding new_side_of world_of with_world new_stamp_of readied_with
  loaded_by x true e = simp e
  loaded_by x false e = simp e

  -- its stamp is the new one
  pub loaded_new : (x : ℕ) → new_stamp_of (with_world (readied_with w x b) x W) ≡ world_stamp_of W
  loaded_new x = loaded_by x (eqb x 0) refl

  queue_by : (x : ℕ) (c : Bool) → eqb x 0 ≡ c → (with_world (readied_with w x b) x W).snapshots.queued ≡ None
  unfolding with_world readied_with
  queue_by x true e = simp e
  queue_by x false e = simp e

  -- nothing is queued
  pub loaded_queue : (x : ℕ) → (with_world (readied_with w x b) x W).snapshots.queued ≡ None
  loaded_queue x = queue_by x (eqb x 0) refl

  swap_by : (c : Bool) → is_left w.new ≡ c → old_stamp_of (with_world (readied_with w (old_side_of w) b) (old_side_of w) W) ≡ new_stamp_of w
  unfolding old_side_of new_side_of world_of with_world old_stamp_of new_stamp_of readied_with
  swap_by true e = simp e
  swap_by false e = simp e

  -- loaded into the old side, the old stamp is the one that was new
  pub swapped_old : old_stamp_of (with_world (readied_with w (old_side_of w) b) (old_side_of w) W) ≡ new_stamp_of w
  swapped_old = swap_by (is_left w.new) refl

  keep_by : (c : Bool) → is_left w.new ≡ c → old_stamp_of (with_world (readied_with w (new_side_of w) b) (new_side_of w) W) ≡ old_stamp_of w
  unfolding old_side_of new_side_of world_of with_world old_stamp_of new_stamp_of readied_with
  keep_by true e = simp e
  keep_by false e = simp e

  -- loaded into the new side, the old stamp stays
  pub loaded_old : old_stamp_of (with_world (readied_with w (new_side_of w) b) (new_side_of w) W) ≡ old_stamp_of w
  loaded_old = keep_by (is_left w.new) refl

-- the worlds of a load
loaded_worlds : (s : Scene) (x : ℕ) (t : Timestamp) (h : ℕ) →
    (loaded_of s x t h).scene.worlds ≡ with_world (readied_with s.worlds x (rest_of s.worlds.base t)) x
    (load_of (world_of s.worlds x) (rest_of s.worlds.base t) t).world
unfolding loaded_of loaded_at
loaded_worlds s x t h = (ledger_keeps (with_worlds s (with_world (readied_with s.worlds x (rest_of s.worlds.base t)) x
    (load_of (world_of s.worlds x) (rest_of s.worlds.base t) t).world)) x _).0

loaded_steps : (s : Scene) (x : ℕ) (t : Timestamp) (h : ℕ) → (loaded_of s x t h).scene.steps ≡ s.steps
unfolding loaded_of loaded_at
loaded_steps s x t h = (ledger_keeps (with_worlds s (with_world (readied_with s.worlds x (rest_of s.worlds.base t)) x
    (load_of (world_of s.worlds x) (rest_of s.worlds.base t) t).world)) x _).1

loaded_marks : (y : ℕ) (s : Scene) (x : ℕ) (t : Timestamp) (h : ℕ) → steps_on y (loaded_of s x t h).words ≡ 0
unfolding loaded_of loaded_at steps_on
loaded_marks y s x t h = steps_on_snapshot y [] x h

load_stamp : (w : Simulation) (b : CommandBuffer) (t : Timestamp) → world_stamp_of (load_of w b t).world ≡ t
unfolding load_of
load_stamp w b t = moved_stamp b t

-- a load whose worlds have these stamps
opens_loaded : (s : Scene) (x : ℕ) (a : QueuedSnapshot) → (old_stamp_of (loaded_of s x a.stamp a.handle).scene.worlds).0 ≡ (old_stamp_of s.worlds).0
    → new_stamp_of (loaded_of s x a.stamp a.handle).scene.worlds ≡ a.stamp → (loaded_of s x a.stamp a.handle).scene.worlds.snapshots.queued ≡ None
    → Opens (Some a) s (loaded_of s x a.stamp a.handle)
opens_loaded s x a eo en eq =
    let t : Timestamp = a.stamp in
    let h : ℕ = a.handle in
    let n : (new_stamp_of (loaded_of s x t h).scene.worlds).0 ≡ t.0 = ap (λ (u : Timestamp). u.0) en in
    record {
      old = eo;
      fitting = λ f k. record { old = rw eo f.old; new = rw n k; queued = rw eq tt };
      behind = λ f l. (λ i. lag_of (eo i) (n i));
      steps = loaded_steps s x t h;
      none = λ y. loaded_marks y s x t h;
    }

-- into the side that was old, where the stamps are equal
opens_swapped : (s : Scene) (a : QueuedSnapshot) → (new_stamp_of s.worlds).0 ≡ (old_stamp_of s.worlds).0
    → Opens (Some a) s (loaded_of s (old_side_of s.worlds) a.stamp a.handle)
opens_swapped s a e =
    let t : Timestamp = a.stamp in
    let h : ℕ = a.handle in
    let x : ℕ = old_side_of s.worlds in
    let b : CommandBuffer = rest_of s.worlds.base t in
    let W : Simulation = (load_of (world_of s.worlds x) b t).world in
    let q : (loaded_of s x t h).scene.worlds ≡ with_world (readied_with s.worlds x b) x W = loaded_worlds s x t h in
    opens_loaded s x a
    (ap (λ (w : ClientWorldSimulations). (old_stamp_of w).0) q ∙ ap (λ (u : Timestamp). u.0) (swapped_old s.worlds b W) ∙ e)
    (ap new_stamp_of q ∙ loaded_new s.worlds b W x ∙ load_stamp (world_of s.worlds x) b t)
    (ap (λ (w : ClientWorldSimulations). w.snapshots.queued) q ∙ loaded_queue s.worlds b W x)

-- into the new side
opens_obsolete : (s : Scene) (a : QueuedSnapshot) → Opens (Some a) s (loaded_of s (new_side_of s.worlds) a.stamp a.handle)
opens_obsolete s a =
    let t : Timestamp = a.stamp in
    let h : ℕ = a.handle in
    let x : ℕ = new_side_of s.worlds in
    let b : CommandBuffer = rest_of s.worlds.base t in
    let W : Simulation = (load_of (world_of s.worlds x) b t).world in
    let q : (loaded_of s x t h).scene.worlds ≡ with_world (readied_with s.worlds x b) x W = loaded_worlds s x t h in
    opens_loaded s x a
    (ap (λ (w : ClientWorldSimulations). (old_stamp_of w).0) q ∙ ap (λ (u : Timestamp). u.0) (loaded_old s.worlds b W))
    (ap new_stamp_of q ∙ loaded_new s.worlds b W x ∙ load_stamp (world_of s.worlds x) b t)
    (ap (λ (w : ClientWorldSimulations). w.snapshots.queued) q ∙ loaded_queue s.worlds b W x)

-- the new world is reset, where it is more than half a cycle behind
opens_reset : (s : Scene) → (Fitting s.worlds → 32767 < lag_in s.worlds) → Opens None s (reset_new s)
unfolding reset_new
opens_reset s far =
    let x : ℕ = new_side_of s.worlds in
    let d = reset_of (world_of s.worlds x) (old_stamp_of s.worlds) x in
    let m : Restamped s.worlds (with_world s.worlds x d.world) (old_stamp_of s.worlds) (world_stamp_of d.world) = put_at_new s.worlds d.world in
    let q : (done_at s x d).scene.worlds ≡ with_world s.worlds x d.world = done_worlds s x d in
    let eo : (old_stamp_of (done_at s x d).scene.worlds).0 ≡ (old_stamp_of s.worlds).0 = ap (λ (w : ClientWorldSimulations). (old_stamp_of w).0) q
    ∙ ap (λ (u : Timestamp). u.0) m.old in
    let en : (new_stamp_of (done_at s x d).scene.worlds).0 ≡ (old_stamp_of s.worlds).0 = ap (λ (w : ClientWorldSimulations). (new_stamp_of w).0) q
    ∙ ap (λ (u : Timestamp). u.0) (m.new ∙ reset_stamp (world_of s.worlds x) (old_stamp_of s.worlds) x) in
    let es : (done_at s x d).scene.worlds.snapshots.queued ≡ s.worlds.snapshots.queued = ap (λ (w : ClientWorldSimulations). w.snapshots.queued) q
    ∙ ap (λ u. u.queued) m.snapshots in
    record {
      old = eo;
      fitting = λ h k. record { old = rw eo h.old; new = rw en h.old; queued = rw es h.queued };
      behind = λ f l. absurd (omega (arith, far f));
      steps = done_steps_lem s x d;
      none = λ y. ap (steps_on y) (done_words s x d) ∙ reset_marks y (world_of s.worlds x) (old_stamp_of s.worlds) x;
    }

opens_by : (t : ReconciliationStatus) (q : Option QueuedSnapshot) (p : Float) (s : Scene) → status_of s.worlds ≡ t
    → Opens (loads_of t q) s (opened_of t (loads_of t q) p s)
unfolding opened_of loaded_queued
opens_by AwaitingSnapshot None p s e = opens_still s
opens_by AwaitingSnapshot (Some q) p s e = opens_swapped s q (awaiting_equal s.worlds e)
opens_by (Blending t) q p s e = opens_blended s p
opens_by (Fastforwarding Healthy) q p s e = opens_still s
opens_by (Fastforwarding Obsolete) None p s e = opens_still s
opens_by (Fastforwarding Obsolete) (Some q) p s e = opens_obsolete s q
opens_by (Fastforwarding Overshot) q p s e = opens_reset s (λ f. overshot_far s.worlds f e)

pub opens : (rules : Rules) (s : Scene) → Opens (snapshot_of s) s (frame_opened rules s)
unfolding frame_opened snapshot_of
opens rules s = opens_by (status_of s.worlds) s.worlds.snapshots.queued rules.progress s refl

loads_fit : (t : ReconciliationStatus) (q : Option QueuedSnapshot) → QueuedFits q → QueuedFits (loads_of t q)
loads_fit AwaitingSnapshot q h = h
loads_fit (Blending t) q h = tt
loads_fit (Fastforwarding Healthy) q h = tt
loads_fit (Fastforwarding Obsolete) q h = h
loads_fit (Fastforwarding Overshot) q h = tt

pub snapshot_fits : (s : Scene) → Fitting s.worlds → QueuedFits (snapshot_of s)
unfolding snapshot_of
snapshot_fits s h = loads_fit (status_of s.worlds) s.worlds.snapshots.queued h.queued

-- ---- the whole frame

-- from where the catching up of a frame starts
abbrev pub gap_of : Scene → ℕ
gap_of s = gap_by (snapshot_of s) (old_stamp_of s.worlds).0 (lag_in s.worlds)

-- a frame f of the scene s by its rules: the old world a step on, the new world m - 1 nearer, one step word for the side then old, and at most m for the side
-- then new, which are counted
pub record OneFrame (rules : Rules) (s : Scene) (f : Played) : Type 0 where
  pub old : (old_stamp_of f.scene.worlds).0 ≡ next_of (old_stamp_of s.worlds).0
  pub fitting : Fitting s.worlds → Fitting f.scene.worlds
  pub behind : 1 ≤ rules.m → Fitting s.worlds → gap_of s ≤ 32767 → lag_in f.scene.worlds ≡ gap_of s - (rules.m - 1)
  pub one : steps_on (old_side_of (frame_opened rules s).scene.worlds) f.words ≡ 1
  pub few : steps_on (new_side_of (frame_opened rules s).scene.worlds) f.words ≤ rules.m
  pub steps : s.steps + rules.m < 2 ^ 32 → f.scene.steps ≡ s.steps + steps_on (new_side_of (frame_opened rules s).scene.worlds) f.words

one_frame_then : (rules : Rules) (s : Scene) (g : Scene → Played) → Opens (snapshot_of s) s (frame_opened rules s)
    → Simulates rules.m (frame_opened rules s).scene (g (frame_opened rules s).scene) → OneFrame rules s (and_then (frame_opened rules s) g)
one_frame_then rules s g o i =
    let m : ℕ = rules.m in
    let q : Played = frame_opened rules s in
    let t : Scene = q.scene in
    let f : Played = g t in
    let sc : (and_then q g).scene ≡ f.scene = then_scene q g in
    let ws : (y : ℕ) → steps_on y (and_then q g).words ≡ steps_on y f.words = λ y. then_marks y q g ∙ omega (arith, o.none y) in
    let eo : (old_stamp_of f.scene.worlds).0 ≡ next_of (old_stamp_of s.worlds).0 = ap (λ (u : Timestamp). u.0) i.old
    ∙ next_is (old_stamp_of t.worlds) ∙ ap next_of o.old in
    record {
      old = rw sc eo;
      fitting = λ h.
          let k : Fitting t.worlds = o.fitting h (snapshot_fits s h) in
          rw sc (record { old = rw eo (next_below (old_stamp_of s.worlds).0); new = i.below k.new; queued = rw i.snapshots k.queued });
      behind = λ hm h l.
          let k : Fitting t.worlds = o.fitting h (snapshot_fits s h) in
          let e : lag_in t.worlds ≡ gap_of s = o.behind h l in
          let r : lag_in f.scene.worlds ≡ lag_in t.worlds - (m - 1) = i.behind hm k.old k.new (omega arith) in
          rw sc (omega arith);
      one = ws (old_side_of t.worlds) ∙ i.one;
      few = rw (ws (new_side_of t.worlds)) i.few;
      steps = λ l.
          let e : t.steps ≡ s.steps = o.steps in
          let r : f.scene.steps ≡ t.steps + steps_on (new_side_of t.worlds) f.words = i.steps (omega arith) in
          rw (sc, ws (new_side_of t.worlds)) (omega arith);
    }

pub one_frame : (rules : Rules) (s : Scene) → OneFrame rules s (frame_of rules s)
unfolding frame_of
one_frame rules s =
    one_frame_then rules s (shown_of rules.m (blended_by (status_of s.worlds) (snapshot_of s))) (opens rules s)
    (shown rules.m (blended_by (status_of s.worlds) (snapshot_of s)) (frame_opened rules s).scene)
