-- The steps of one frame: the old world's one step, the new world's catching up, m steps at most, and what is published. Their stamps, their step words and how
-- far behind the new world is left. Assumes nothing.
use mathlib.Core.Path.{◌≡◌, refl, ap, sym, ◌∙◌}
use mathlib.Core.Bool.{Bool, true, false}
use mathlib.Core.List.{List, [], ◌++◌}
use Prim.Native.Nat.{ℕ, zero, suc, ◌+◌, ◌-◌, ◌%◌, ◌^◌, ◌<◌, ◌≤◌}
use native.Mathlib.Omega.{arith}
use borrow.Author.Tests.{ltb-true, ltb-false, eq-eqb, ne_eqb}
use lib.Dec.{eqb, ltb}
use Rattle.timestamp.specs.declared.Timestamp.{Timestamp}
use Rattle.tape.specs.Words.{count_if, steps_on}
use Rattle.tape.proofs.Counting.{steps_on-append, steps_on_publish, steps_on_none, steps_on_mix}
use Rattle.simulation.specs.World.{next_stamp, step_of}
use Rattle.client.specs.declared.ClientWorldSimulations.{ClientWorldSimulations}
use Rattle.std.specs.Prelude.{Option}
use Rattle.client.specs.declared.Scene.{Scene}
use Rattle.client.specs.Sides.{new_side_of, old_side_of, world_of, with_world, old_stamp_of, new_stamp_of, Played, still, and_then}
use Rattle.client_publish.specs.Publish.{with_state}
use Rattle.client_publish.proofs.Telling.{Telling, of_none, of_side, of_mix, told}
use Rattle.client_frame.specs.Frame.{caught_up_of, stepped_side, stepped_new, unless, caught_of, simulated_of, published_by, shown_of}
use Rattle.client_frame.proofs.Induction.{published_by_lem}
use Rattle.session_laws.proofs.SoundWorlds.{done_worlds, step_stamp}
use Rattle.session_laws.proofs.TraceStamps.{lag_of, next_of, next_is, next_below, lag_none, lag_step, lag_next, reached_is, sides_apart, Restamped}
use Rattle.session_laws.proofs.TraceStamps.{put_at_old, put_at_new, done_steps_lem, done_words, step_marks}

-- how far the new world of a pair is behind
abbrev pub lag_in : ClientWorldSimulations → ℕ
lag_in w = lag_of (old_stamp_of w).0 (new_stamp_of w).0

-- ---- one thing and then another

pub then_scene : (p : Played) (f : Scene → Played) → (and_then p f).scene ≡ (f p.scene).scene
unfolding and_then
then_scene p f = refl

pub then_words : (p : Played) (f : Scene → Played) → (and_then p f).words ≡ p.words ++ (f p.scene).words
unfolding and_then
then_words p f = refl

pub then_marks : (y : ℕ) (p : Played) (f : Scene → Played) → steps_on y (and_then p f).words ≡ steps_on y p.words + steps_on y (f p.scene).words
then_marks y p f = ap (steps_on y) (then_words p f) ∙ steps_on-append y p.words (f p.scene).words

-- ---- the step of a side

-- a side counted on itself, and on another one
pub count_same : (x y : ℕ) → x < 2 → x ≡ y → count_if (eqb (x % 2) y) ≡ 1
count_same x y h e = ap count_if (eq-eqb (x % 2) y (omega arith))

pub count_other : (x y : ℕ) → x < 2 → (x ≡ y → ⊥) → count_if (eqb (x % 2) y) ≡ 0
count_other x y h n = ap count_if (ne_eqb (x % 2) y (λ e. n (omega arith)))

-- the world of a side that steps, with its words
pub stepped_worlds : (s : Scene) (x : ℕ) → (stepped_side s x).scene.worlds ≡ with_world s.worlds x (step_of (world_of s.worlds x) x).world
unfolding stepped_side
stepped_worlds s x = done_worlds s x (step_of (world_of s.worlds x) x)

pub stepped_steps : (s : Scene) (x : ℕ) → (stepped_side s x).scene.steps ≡ s.steps
unfolding stepped_side
stepped_steps s x = done_steps_lem s x (step_of (world_of s.worlds x) x)

pub stepped_marks : (y : ℕ) (s : Scene) (x : ℕ) → steps_on y (stepped_side s x).words ≡ count_if (eqb (x % 2) y)
unfolding stepped_side
stepped_marks y s x = ap (steps_on y) (done_words s x (step_of (world_of s.worlds x) x)) ∙ step_marks y (world_of s.worlds x) x

moved_as : {v w u : ClientWorldSimulations} {o n p q : Timestamp} → w ≡ u → Restamped v u p q → p ≡ o → q ≡ n → Restamped v w o n
moved_as e m a b = rw e (record { side = m.side; oldside = m.oldside; old = m.old ∙ a; new = m.new ∙ b; snapshots = m.snapshots; weight = m.weight })

-- the old world steps
pub stepped_old : (s : Scene) → Restamped s.worlds (stepped_side s (old_side_of s.worlds)).scene.worlds (next_stamp (old_stamp_of s.worlds))
    (new_stamp_of s.worlds)
unfolding old_stamp_of
stepped_old s =
    let x = old_side_of s.worlds in
    let d = step_of (world_of s.worlds x) x in
    moved_as (stepped_worlds s x) (put_at_old s.worlds d.world) (step_stamp (world_of s.worlds x) x) refl

-- the new world steps
stepped_new_side : (s : Scene) → Restamped s.worlds (stepped_side s (new_side_of s.worlds)).scene.worlds (old_stamp_of s.worlds)
    (next_stamp (new_stamp_of s.worlds))
unfolding new_stamp_of
stepped_new_side s =
    let x = new_side_of s.worlds in
    let d = step_of (world_of s.worlds x) x in
    moved_as (stepped_worlds s x) (put_at_new s.worlds d.world) refl (step_stamp (world_of s.worlds x) x)

pub stepped_new_lem : (s : Scene) → Restamped s.worlds (stepped_new s).scene.worlds (old_stamp_of s.worlds) (next_stamp (new_stamp_of s.worlds))
unfolding stepped_new
stepped_new_lem s = stepped_new_side s

pub stepped_new_steps : (s : Scene) → (stepped_new s).scene.steps ≡ (s.steps + 1) % 2 ^ 32
unfolding stepped_new
stepped_new_steps s = ap (λ n. (n + 1) % 2 ^ 32) (stepped_steps s (new_side_of s.worlds))

pub stepped_new_marks : (y : ℕ) (s : Scene) → steps_on y (stepped_new s).words ≡ count_if (eqb (new_side_of s.worlds % 2) y)
unfolding stepped_new
stepped_new_marks y s = stepped_marks y s (new_side_of s.worlds)

-- ---- catching up

-- the new world after n steps at most toward the old one: sides, old stamp and snapshots stay
pub record Catches (n : ℕ) (s : Scene) (p : Played) : Type 0 where
  pub side : new_side_of p.scene.worlds ≡ new_side_of s.worlds
  pub oldside : old_side_of p.scene.worlds ≡ old_side_of s.worlds
  pub old : old_stamp_of p.scene.worlds ≡ old_stamp_of s.worlds
  pub snapshots : p.scene.worlds.snapshots ≡ s.worlds.snapshots
  pub weight : p.scene.worlds.weight ≡ s.worlds.weight
  pub below : (new_stamp_of s.worlds).0 < 65536 → (new_stamp_of p.scene.worlds).0 < 65536
  pub behind : (old_stamp_of s.worlds).0 < 65536 → (new_stamp_of s.worlds).0 < 65536 → lag_in s.worlds ≤ 32768
      → lag_in p.scene.worlds ≡ lag_in s.worlds - n
  pub few : steps_on (new_side_of s.worlds) p.words ≤ n
  pub none : steps_on (old_side_of s.worlds) p.words ≡ 0
  pub steps : s.steps + n < 2 ^ 32 → p.scene.steps ≡ s.steps + steps_on (new_side_of s.worlds) p.words

-- it steps no more
catches_still : (n : ℕ) (s : Scene) → ((old_stamp_of s.worlds).0 < 65536 → (new_stamp_of s.worlds).0 < 65536 → lag_in s.worlds ≤ 32768
    → lag_in s.worlds ≡ lag_in s.worlds - n) → Catches n s (still s)
unfolding steps_on
catches_still n s h =
    record {
      side = refl;
      oldside = refl;
      old = refl;
      snapshots = refl;
      weight = refl;
      below = λ l. l;
      behind = h;
      few = omega arith;
      none = refl;
      steps = λ l. omega arith;
    }

-- it steps once and goes on
catches_more : (n : ℕ) (s : Scene) (f : Scene → Played) → 32768 ≤ lag_of (new_stamp_of s.worlds).0 (old_stamp_of s.worlds).0
    → Catches n (stepped_new s).scene (f (stepped_new s).scene) → Catches (suc n) s (and_then (stepped_new s) f)
catches_more n s f far i =
    let t : Scene = (stepped_new s).scene in
    let p : Played = f t in
    let m : Restamped s.worlds t.worlds (old_stamp_of s.worlds) (next_stamp (new_stamp_of s.worlds)) = stepped_new_lem s in
    let k : (new_stamp_of t.worlds).0 ≡ next_of (new_stamp_of s.worlds).0 = ap (λ (x : Timestamp). x.0) m.new ∙ next_is (new_stamp_of s.worlds) in
    let o : (old_stamp_of t.worlds).0 ≡ (old_stamp_of s.worlds).0 = ap (λ (x : Timestamp). x.0) m.old in
    let nb : next_of (new_stamp_of s.worlds).0 < 65536 = next_below (new_stamp_of s.worlds).0 in
    let sc : (and_then (stepped_new s) f).scene ≡ p.scene = then_scene (stepped_new s) f in
    let a : old_side_of s.worlds + new_side_of s.worlds ≡ 1 = sides_apart s.worlds in
    let few : steps_on (new_side_of s.worlds) p.words ≤ n = rw m.side at i.few in
    let none : steps_on (old_side_of s.worlds) p.words ≡ 0 = rw m.oldside at i.none in
    let e1 : steps_on (new_side_of s.worlds) (and_then (stepped_new s) f).words ≡ 1 + steps_on (new_side_of s.worlds) p.words =
    omega (
      arith,
      then_marks (new_side_of s.worlds) (stepped_new s) f,
      stepped_new_marks (new_side_of s.worlds) s,
      count_same (new_side_of s.worlds)
          (new_side_of s.worlds) (omega arith) refl,
    ) in
    let e0 : steps_on (old_side_of s.worlds) (and_then (stepped_new s) f).words ≡ 0 =
    omega (
      arith,
      then_marks (old_side_of s.worlds) (stepped_new s) f,
      stepped_new_marks (old_side_of s.worlds) s,
      count_other (new_side_of s.worlds)
          (old_side_of s.worlds) (omega arith) (λ e. omega arith),
    ) in
    record {
      side = rw sc (i.side ∙ m.side);
      oldside = rw sc (i.oldside ∙ m.oldside);
      old = rw sc (i.old ∙ m.old);
      snapshots = rw sc (i.snapshots ∙ m.snapshots);
      weight = rw sc (i.weight ∙ m.weight);
      below = λ l. rw sc (i.below (omega arith));
      behind = λ ho hn h.
          let z : lag_in s.worlds ≡ lag_of (old_stamp_of s.worlds).0 (next_of (new_stamp_of s.worlds).0) + 1 =
          lag_step (old_stamp_of s.worlds).0 (new_stamp_of s.worlds).0 ho hn far in
          let y : lag_in t.worlds ≡ lag_of (old_stamp_of s.worlds).0 (next_of (new_stamp_of s.worlds).0) = (λ j. lag_of (o j) (k j)) in
          let x : lag_in p.scene.worlds ≡ lag_in t.worlds - n = i.behind (omega arith) (omega arith) (omega arith) in
          rw sc (omega arith);
      few = omega arith;
      none = e0;
      steps = λ l.
          let c : t.steps ≡ (s.steps + 1) % 2 ^ 32 = stepped_new_steps s in
          let d : t.steps ≡ s.steps + 1 = omega arith in
          let x : p.scene.steps ≡ t.steps + steps_on (new_side_of t.worlds) p.words = i.steps (omega arith) in
          let y : steps_on (new_side_of t.worlds) p.words ≡ steps_on (new_side_of s.worlds) p.words = ap (λ z. steps_on z p.words) m.side in
          rw sc (omega arith);
    }

catches_by : (b : Bool) (n : ℕ) (o : Timestamp) (s : Scene) → caught_up_of (new_stamp_of s.worlds) o ≡ b → o ≡ old_stamp_of s.worlds
    → Catches n (stepped_new s).scene (caught_of n o (stepped_new s).scene) → Catches (suc n) s (unless b s (and_then (stepped_new s) (caught_of n o)))
catches_by true n o s e q i =
    catches_still (suc n) s (λ ho hn h.
    let r : ltb (lag_of (new_stamp_of s.worlds).0 (old_stamp_of s.worlds).0) 32768 ≡ true =
    sym (reached_is (new_stamp_of s.worlds) (old_stamp_of s.worlds)) ∙ ap (caught_up_of (new_stamp_of s.worlds)) (sym q) ∙ e in
    omega (arith, lag_none (old_stamp_of s.worlds).0 (new_stamp_of s.worlds).0 ho hn h (ltb-true _ _ r)))
catches_by false n o s e q i =
    let r : ltb (lag_of (new_stamp_of s.worlds).0 (old_stamp_of s.worlds).0) 32768 ≡ false =
    sym (reached_is (new_stamp_of s.worlds) (old_stamp_of s.worlds)) ∙ ap (caught_up_of (new_stamp_of s.worlds)) (sym q) ∙ e in
    catches_more n s (caught_of n o) (ltb-false _ _ r) i

-- the catching up of a frame
pub catches : (n : ℕ) (o : Timestamp) (s : Scene) → o ≡ old_stamp_of s.worlds → Catches n s (caught_of n o s)
unfolding caught_of
catches zero o s q = catches_still 0 s (λ ho hn h. omega arith)
catches (suc n) o s q =
    catches_by (caught_up_of (new_stamp_of s.worlds) o) n o s refl q (catches n o (stepped_new s).scene (q ∙ sym (stepped_new_lem s).old))

-- ---- both worlds

-- the worlds' steps in a frame, with m catch-up steps at most
pub record Simulates (m : ℕ) (s : Scene) (p : Played) : Type 0 where
  pub side : new_side_of p.scene.worlds ≡ new_side_of s.worlds
  pub old : old_stamp_of p.scene.worlds ≡ next_stamp (old_stamp_of s.worlds)
  pub snapshots : p.scene.worlds.snapshots ≡ s.worlds.snapshots
  pub weight : p.scene.worlds.weight ≡ s.worlds.weight
  pub below : (new_stamp_of s.worlds).0 < 65536 → (new_stamp_of p.scene.worlds).0 < 65536
  pub behind : 1 ≤ m → (old_stamp_of s.worlds).0 < 65536 → (new_stamp_of s.worlds).0 < 65536 → lag_in s.worlds ≤ 32767
      → lag_in p.scene.worlds ≡ lag_in s.worlds - (m - 1)
  pub one : steps_on (old_side_of s.worlds) p.words ≡ 1
  pub few : steps_on (new_side_of s.worlds) p.words ≤ m
  pub steps : s.steps + m < 2 ^ 32 → p.scene.steps ≡ s.steps + steps_on (new_side_of s.worlds) p.words

simulates_then : (m : ℕ) (s : Scene) (f : Scene → Played) → Catches m (stepped_side s (old_side_of s.worlds)).scene
    (f (stepped_side s (old_side_of s.worlds)).scene) → Simulates m s (and_then (stepped_side s (old_side_of s.worlds)) f)
simulates_then m s f i =
    let q : Played = stepped_side s (old_side_of s.worlds) in
    let t : Scene = q.scene in
    let p : Played = f t in
    let v : Restamped s.worlds t.worlds (next_stamp (old_stamp_of s.worlds)) (new_stamp_of s.worlds) = stepped_old s in
    let k : (old_stamp_of t.worlds).0 ≡ next_of (old_stamp_of s.worlds).0 = ap (λ (x : Timestamp). x.0) v.old ∙ next_is (old_stamp_of s.worlds) in
    let o : (new_stamp_of t.worlds).0 ≡ (new_stamp_of s.worlds).0 = ap (λ (x : Timestamp). x.0) v.new in
    let nb : next_of (old_stamp_of s.worlds).0 < 65536 = next_below (old_stamp_of s.worlds).0 in
    let sc : (and_then q f).scene ≡ p.scene = then_scene q f in
    let a : old_side_of s.worlds + new_side_of s.worlds ≡ 1 = sides_apart s.worlds in
    let few : steps_on (new_side_of s.worlds) p.words ≤ m = rw v.side at i.few in
    let none : steps_on (old_side_of s.worlds) p.words ≡ 0 = rw v.oldside at i.none in
    let e1 : steps_on (old_side_of s.worlds) (and_then q f).words ≡ 1 =
    omega (
      arith,
      then_marks (old_side_of s.worlds) q f,
      stepped_marks (old_side_of s.worlds) s (old_side_of s.worlds),
      count_same
          (old_side_of s.worlds) (old_side_of s.worlds) (omega arith) refl,
    ) in
    let e0 : steps_on (new_side_of s.worlds) (and_then q f).words ≡ steps_on (new_side_of s.worlds) p.words =
    omega (
      arith,
      then_marks (new_side_of s.worlds) q f,
      stepped_marks (new_side_of s.worlds) s (old_side_of s.worlds),
      count_other
          (old_side_of s.worlds) (new_side_of s.worlds) (omega arith) (λ e. omega arith),
    ) in
    record {
      side = rw sc (i.side ∙ v.side);
      old = rw sc (i.old ∙ v.old);
      snapshots = rw sc (i.snapshots ∙ v.snapshots);
      weight = rw sc (i.weight ∙ v.weight);
      below = λ l. rw sc (i.below (omega arith));
      behind = λ hm ho hn h.
          let z : lag_of (next_of (old_stamp_of s.worlds).0) (new_stamp_of s.worlds).0 ≡ lag_in s.worlds + 1 =
          lag_next (old_stamp_of s.worlds).0 (new_stamp_of s.worlds).0 ho hn h in
          let y : lag_in t.worlds ≡ lag_of (next_of (old_stamp_of s.worlds).0) (new_stamp_of s.worlds).0 = (λ j. lag_of (k j) (o j)) in
          let x : lag_in p.scene.worlds ≡ lag_in t.worlds - m = i.behind (omega arith) (omega arith) (omega arith) in
          rw sc (omega arith);
      one = e1;
      few = omega arith;
      steps = λ l.
          let d : t.steps ≡ s.steps = stepped_steps s (old_side_of s.worlds) in
          let x : p.scene.steps ≡ t.steps + steps_on (new_side_of t.worlds) p.words = i.steps (omega arith) in
          let y : steps_on (new_side_of t.worlds) p.words ≡ steps_on (new_side_of s.worlds) p.words = ap (λ z. steps_on z p.words) v.side in
          rw sc (omega arith);
    }

pub simulates : (m : ℕ) (s : Scene) → Simulates m s (simulated_of m s)
unfolding simulated_of
simulates m s =
    simulates_then m s (λ t. caught_of m (old_stamp_of t.worlds) t)
    (catches m (old_stamp_of (stepped_side s (old_side_of s.worlds)).scene.worlds) (stepped_side s (old_side_of s.worlds)).scene refl)

-- ---- what is published

-- nothing of the worlds but what is published changes, and no step word is put
pub record Shows (s : Scene) (p : Played) : Type 0 where
  pub side : new_side_of p.scene.worlds ≡ new_side_of s.worlds
  pub old : old_stamp_of p.scene.worlds ≡ old_stamp_of s.worlds
  pub new : new_stamp_of p.scene.worlds ≡ new_stamp_of s.worlds
  pub snapshots : p.scene.worlds.snapshots ≡ s.worlds.snapshots
  pub weight : p.scene.worlds.weight ≡ s.worlds.weight
  pub steps : p.scene.steps ≡ s.steps
  pub none : (y : ℕ) → steps_on y p.words ≡ 0

shows_state : (s : Scene) (l : Option Timestamp) (ws : List ℕ) → ((y : ℕ) → steps_on y ws ≡ 0) → Shows s (record { scene = with_state s l; words = ws })
unfolding new_side_of old_stamp_of new_stamp_of old_side_of world_of
shows_state s l ws h = record { side = refl; old = refl; new = refl; snapshots = refl; weight = refl; steps = refl; none = h }

told_marks : (y : ℕ) (w : Telling) → steps_on y (told w) ≡ 0
unfolding steps_on
told_marks y of_none = steps_on_none y []
told_marks y (of_side side) = steps_on_publish y [] side
told_marks y (of_mix t) = steps_on_mix y t

pub shows : (b : Bool) (s : Scene) → Shows s (published_by b s)
shows b s = published_by_lem (Shows s) s (λ l w. shows_state s l (told w) (λ y. told_marks y w)) b

-- the worlds' steps and what is published
shown_then : (m : ℕ) (s : Scene) (q : Played) (f : Scene → Played) → Simulates m s q → Shows q.scene (f q.scene) → Simulates m s (and_then q f)
shown_then m s q f i j =
    let sc : (and_then q f).scene ≡ (f q.scene).scene = then_scene q f in
    let ws : (y : ℕ) → steps_on y (and_then q f).words ≡ steps_on y q.words = λ y. then_marks y q f ∙ omega (arith, j.none y) in
    record {
      side = rw sc (j.side ∙ i.side);
      old = rw sc (j.old ∙ i.old);
      snapshots = rw sc (j.snapshots ∙ i.snapshots);
      weight = rw sc (j.weight ∙ i.weight);
      below = λ l. rw (sc, j.new) (i.below l);
      behind = λ hm ho hn h. rw (sc, j.old, j.new) (i.behind hm ho hn h);
      one = ws (old_side_of s.worlds) ∙ i.one;
      few = rw (ws (new_side_of s.worlds)) i.few;
      steps = λ l. rw (sc, ws (new_side_of s.worlds)) (j.steps ∙ i.steps l);
    }

pub shown : (m : ℕ) (b : Bool) (s : Scene) → Simulates m s (shown_of m b s)
unfolding shown_of
shown m b s = shown_then m s (simulated_of m s) (published_by b) (simulates m s) (shows b (simulated_of m s).scene)
