-- A frame that is decided from the numbers of a scene is the frame of that scene: what it does, the numbers after it, and whether it stops.
-- Assumes nothing.
use Rattle.std.specs.Ordering.{is_ge}
use Rattle.std.proofs.Common.{◌≡◌, ℕ, zero, suc, ◌+◌, ◌-◌, ◌%◌, ◌<◌, ◌≤◌, Bool, true, false, cond, ltb, ◌++◌, pos, negsuc, sym, refl, ap, ◌∙◌, arith}
use Rattle.std.proofs.Common.{ltb-false, ltb-true, le-ltb, Option, Some, None}
use lib.Ieee.{Float, eq}
use Rattle.timestamp.specs.Floats.{zero64}
use Rattle.timestamp.specs.declared.Timestamp.{Timestamp}
use Rattle.timestamp.specs.Timestamps.{sum_of, difference_of, signed_of, sign_of, order_of}
use Rattle.simulation.specs.World.{next_stamp}
use Rattle.client.specs.declared.FastforwardingHealth.TheVariants.{Healthy, Obsolete, Overshot}
use Rattle.client.specs.declared.ReconciliationStatus.{ReconciliationStatus}
use Rattle.client.specs.declared.ReconciliationStatus.TheVariants.{AwaitingSnapshot, Fastforwarding, Blending}
use Rattle.client.specs.declared.QueuedSnapshot.{QueuedSnapshot}
use Rattle.client.specs.declared.Scene.{Scene}
use Rattle.client.specs.Sides.{new_side_of, old_side_of, world_of, old_stamp_of, new_stamp_of, Played, and_then}
use Rattle.client.specs.Status.{status_of}
use Rattle.client_publish.specs.Publish.{published_none, published_side, published_mix, published_old, near_one, published_both, published_blended}
use Rattle.client_frame.specs.declared.Rules.{Rules}
use Rattle.client_frame.specs.Frame.{loads_of, loaded_queued, blended_on, opened_of, stepped_side, caught_up_of, stepped_new, unless, caught_of, simulated_of}
use Rattle.client_frame.specs.Frame.{blended_by, published_by, shown_of, stops_of, snapshot_of, frame_opened, frame_of, frame_stops}
use Rattle.client_numbers.specs.Numbers.{Numbers, Shows, OldWorld, NewWorld, Mix, healthy_stops}
use Rattle.client_numbers.specs.Numbers.{status_in, opens_with, has_reached, steps_to, times, old_step_by, stepped_by, shows_both, shows_by, shown_by}
use Rattle.client_numbers.specs.Numbers.{stops_in, frame_opens, opened_numbers, frame_steps, stepped_numbers, frame_shows, next_numbers, decided_of}
use Rattle.client_numbers.specs.Decided.{numbers_of, done_opening, steps_new, done_steps, done_showing, done_by, Decides, FrameDecided}
use Rattle.client_numbers.proofs.Reading.{opening, step_old, step_new, stepping, showing}

-- ---- the catching up

reached_by : (b : Bool) (d : ℕ) → is_ge (sign_of (cond b (pos d) (negsuc (65535 - d)))) ≡ b
reached_by true zero = refl
reached_by true (suc d) = refl
reached_by false d = refl

-- the catch-up test: n is at or after o by less than half a cycle
reached_is : (n o : Timestamp) → caught_up_of n o ≡ has_reached o n
unfolding has_reached caught_up_of order_of signed_of
reached_is n o = reached_by (ltb (difference_of n.0 o.0) 32768) (difference_of n.0 o.0)

-- no step where none is allowed
steps_none : (o n : Timestamp) → steps_to o n 0 ≡ 0
unfolding steps_to
steps_none o n = go (difference_of n.0 o.0) (has_reached o n)
  where
    go : (d : ℕ) (b : Bool) → cond b 0 (cond (ltb (65536 - d) 0) (65536 - d) 0) ≡ 0
    go d true = refl
    go d false = rw (le-ltb (65536 - d) 0 (omega arith)) refl

-- nor where the stamp is reached
steps_reached : (o n : Timestamp) (m : ℕ) → caught_up_of n o ≡ true → steps_to o n m ≡ 0
unfolding steps_to
steps_reached o n m h = rw (sym (reached_is n o) ∙ h) refl

-- e after, and f after one more step: one step less is left
fewer : (e f m : ℕ) → 32768 ≤ e → e < 65536 → f ≡ (e + 1) % 65536 → (u v w : Bool) → ltb f 32768 ≡ u → ltb (65536 - e) (suc m) ≡ v
    → ltb (65536 - f) m ≡ w → cond v (65536 - e) (suc m) ≡ suc (cond u 0 (cond w (65536 - f) m))
fewer e f m h k g true true w p q r = omega (arith, ltb-true f 32768 p)
fewer e f m h k g true false w p q r = omega (arith, ltb-true f 32768 p, ltb-false (65536 - e) (suc m) q)
fewer e f m h k g false true true p q r = omega (arith, ltb-false f 32768 p)
fewer e f m h k g false true false p q r = omega (arith, ltb-false f 32768 p, ltb-true (65536 - e) (suc m) q, ltb-false (65536 - f) m r)
fewer e f m h k g false false true p q r = omega (arith, ltb-false f 32768 p, ltb-false (65536 - e) (suc m) q, ltb-true (65536 - f) m r)
fewer e f m h k g false false false p q r = refl

-- a step takes the new world one nearer
after_next : (o n : ℕ) → o < 65536 → difference_of (sum_of n 1) o ≡ (difference_of n o + 1) % 65536
after_next o n h = omega arith

steps_more : (o n : Timestamp) (m : ℕ) → o.0 < 65536 → caught_up_of n o ≡ false → steps_to o n (suc m) ≡ suc (steps_to o (next_stamp n) m)
unfolding steps_to has_reached
steps_more o n m l h =
    let t : ltb (difference_of n.0 o.0) 32768 ≡ false = sym (reached_is n o) ∙ h in
    rw t (fewer (difference_of n.0 o.0) (difference_of (sum_of n.0 1) o.0) m (ltb-false _ _ t) (omega arith) (after_next o.0 n.0 l)
    _ _ _ refl refl refl)

-- what comes after may be told otherwise, as long as it is the same for the scene that is reached
then_as : (p : Played) (f g : Scene → Played) → f p.scene ≡ g p.scene → and_then p f ≡ and_then p g
unfolding and_then
then_as p f g e = λ i. record { scene = (e i).scene; words = p.words ++ (e i).words }

new_stamp : (s : Scene) → new_stamp_of (stepped_new s).scene.worlds ≡ next_stamp (new_stamp_of s.worlds)
unfolding numbers_of times
new_stamp s = ap (λ (n : Numbers). n.new) (step_new s)

caught_by : (b : Bool) (m : ℕ) (o : Timestamp) (s : Scene) → o.0 < 65536 → caught_up_of (new_stamp_of s.worlds) o ≡ b
    → caught_of m o (stepped_new s).scene ≡ steps_new (steps_to o (new_stamp_of (stepped_new s).scene.worlds) m) (stepped_new s).scene
    → unless b s (and_then (stepped_new s) (caught_of m o)) ≡ steps_new (steps_to o (new_stamp_of s.worlds) (suc m)) s
unfolding steps_new
caught_by true m o s l h i = ap (λ (k : ℕ). steps_new k s) (sym (steps_reached o (new_stamp_of s.worlds) (suc m) h))
caught_by false m o s l h i =
    then_as (stepped_new s) (caught_of m o) (steps_new (steps_to o (new_stamp_of (stepped_new s).scene.worlds) m)) i
    ∙ ap (λ (t : Timestamp). steps_new (suc (steps_to o t m)) s) (new_stamp s)
    ∙ ap (λ (k : ℕ). steps_new k s) (sym (steps_more o (new_stamp_of s.worlds) m l h))

-- the catching up is that many steps
caught_steps : (m : ℕ) (o : Timestamp) (s : Scene) → o.0 < 65536 → caught_of m o s ≡ steps_new (steps_to o (new_stamp_of s.worlds) m) s
unfolding caught_of steps_new
caught_steps zero o s l = ap (λ (k : ℕ). steps_new k s) (sym (steps_none o (new_stamp_of s.worlds)))
caught_steps (suc m) o s l = caught_by (caught_up_of (new_stamp_of s.worlds) o) m o s l refl (caught_steps m o (stepped_new s).scene l)

-- the worlds' steps
simulates : (m : ℕ) (u : Scene) → done_steps (steps_to (next_stamp (numbers_of u).old) (numbers_of u).new m) u ≡ simulated_of m u
unfolding done_steps simulated_of numbers_of
simulates m u =
    let p : Played = stepped_side u (old_side_of u.worlds) in
    let v : Scene = p.scene in
    let e : numbers_of v ≡ old_step_by (numbers_of u) = step_old u in
    let l : (old_stamp_of v.worlds).0 < 65536 = rw (ap (λ (n : Numbers). n.old.0) e) (omega arith) in
    then_as p (steps_new (steps_to (next_stamp (numbers_of u).old) (numbers_of u).new m)) (λ (t : Scene). caught_of m (old_stamp_of t.worlds) t)
    (ap (λ (n : Numbers). steps_new (steps_to n.old n.new m) v) (sym e) ∙ sym (caught_steps m (old_stamp_of v.worlds) v l))

-- ---- what a frame opens with, publishes, and whether it stops

opens_as : (t : ReconciliationStatus) (q : Option QueuedSnapshot) (p : Float) (s : Scene)
    → done_opening (opens_with t q s.worlds.weight p) s ≡ opened_of t (loads_of t q) p s
unfolding done_opening opened_of loaded_queued blended_on
opens_as AwaitingSnapshot None p s = refl
opens_as AwaitingSnapshot (Some x) p s = refl
opens_as (Blending t) q p s = refl
opens_as (Fastforwarding Healthy) q p s = refl
opens_as (Fastforwarding Obsolete) None p s = refl
opens_as (Fastforwarding Obsolete) (Some x) p s = refl
opens_as (Fastforwarding Overshot) q p s = refl

blends_as : (t : ReconciliationStatus) (q : Option QueuedSnapshot) → blended_by t q ≡ blended_by t (loads_of t q)
blends_as AwaitingSnapshot q = refl
blends_as (Blending t) q = refl
blends_as (Fastforwarding Healthy) q = refl
blends_as (Fastforwarding Obsolete) q = refl
blends_as (Fastforwarding Overshot) q = refl

both_by_lem : (b c : Bool) (t : Float) (s : Scene) → done_showing (cond b OldWorld (cond c NewWorld (Mix t))) s
    ≡ cond b (published_side s (old_side_of s.worlds)) (cond c (published_side s (new_side_of s.worlds)) (published_mix s t))
unfolding done_showing
both_by_lem true c t s = refl
both_by_lem false true t s = refl
both_by_lem false false t s = refl

both_as : (s : Scene) → done_showing (shows_both s.worlds.weight) s ≡ published_both s
unfolding shows_both published_both
both_as s = both_by_lem (eq s.worlds.weight zero64) (near_one s.worlds.weight) s.worlds.weight s

-- by the weight or not, and by which worlds are initialised
shows_by_lem : (b i j : Bool) (s : Scene) → done_showing (shows_by b i j s.worlds.weight) s
    ≡ cond b
    (cond i (published_both s) (cond j (published_side s (new_side_of s.worlds)) (published_none s)))
    (cond i (published_side s (old_side_of s.worlds)) (published_none s))
unfolding done_showing
shows_by_lem true true j s = both_as s
shows_by_lem true false true s = refl
shows_by_lem true false false s = refl
shows_by_lem false true j s = refl
shows_by_lem false false j s = refl

shows_as : (b : Bool) (s : Scene) → done_showing (shows_by b (numbers_of s).oldinit (numbers_of s).newinit (numbers_of s).weight) s ≡ published_by b s
unfolding numbers_of published_blended published_old
shows_as true s = shows_by_lem true (world_of s.worlds (old_side_of s.worlds)).init (world_of s.worlds (new_side_of s.worlds)).init s
shows_as false s = shows_by_lem false (world_of s.worlds (old_side_of s.worlds)).init (world_of s.worlds (new_side_of s.worlds)).init s

stops_as : (t : ReconciliationStatus) (s e : Scene) → stops_in t (numbers_of s) (numbers_of e) ≡ stops_of t (loads_of t s.worlds.snapshots.queued) s.worlds
    e.worlds
unfolding stops_of numbers_of healthy_stops status_in status_of
stops_as AwaitingSnapshot s e = refl
stops_as (Blending t) s e = refl
stops_as (Fastforwarding Healthy) s e = refl
stops_as (Fastforwarding Obsolete) s e = refl
stops_as (Fastforwarding Overshot) s e = refl

-- ---- the frame

module _ (rules : Rules) (s : Scene) where
  -- the status is that of the scene
  status_as : status_in (numbers_of s) ≡ status_of s.worlds
  unfolding status_in status_of numbers_of
  status_as = refl

  -- when it has opened
  at_opening : numbers_of (done_opening (frame_opens rules (numbers_of s)) s).scene ≡ opened_numbers rules (numbers_of s)
  unfolding opened_numbers
  at_opening = opening (frame_opens rules (numbers_of s)) s

  -- the scene when it has opened
  opened : Scene
  opened = (done_opening (frame_opens rules (numbers_of s)) s).scene

  -- the worlds' steps
  steps_done : done_steps (frame_steps rules (numbers_of s)) opened ≡ simulated_of rules.m opened
  unfolding frame_steps opened
  steps_done =
      let u : Scene = (done_opening (frame_opens rules (numbers_of s)) s).scene in
      ap (λ (n : Numbers). done_steps (steps_to (next_stamp n.old) n.new rules.m) u) (sym at_opening) ∙ simulates rules.m u

  -- after them
  at_stepping : numbers_of (done_steps (frame_steps rules (numbers_of s)) opened).scene ≡ stepped_numbers rules (numbers_of s)
  unfolding stepped_numbers opened
  at_stepping =
      stepping (frame_steps rules (numbers_of s)) (done_opening (frame_opens rules (numbers_of s)) s).scene
      ∙ ap (stepped_by (frame_steps rules (numbers_of s))) at_opening

  -- what is published
  shows_done : done_showing (frame_shows rules (numbers_of s)) (done_steps (frame_steps rules (numbers_of s)) opened).scene
      ≡ published_by (blended_by (status_in (numbers_of s)) (numbers_of s).queued) (done_steps (frame_steps rules (numbers_of s)) opened).scene
  unfolding frame_shows
  shows_done =
      let b : Bool = blended_by (status_in (numbers_of s)) (numbers_of s).queued in
      let z : Scene = (done_steps (frame_steps rules (numbers_of s)) opened).scene in
      ap (λ (n : Numbers). done_showing (shows_by b n.oldinit n.newinit n.weight) z) (sym at_stepping) ∙ shows_as b z

  -- the whole frame
  frame_done : done_by (decided_of rules (numbers_of s)) s ≡ frame_of rules s
  unfolding done_by decided_of frame_opens frame_of frame_opened snapshot_of shown_of status_in status_of numbers_of opened
  frame_done =
      let t : ReconciliationStatus = status_in (numbers_of s) in
      let q : Option QueuedSnapshot = (numbers_of s).queued in
      let b : Bool = blended_by t q in
      let p : Played = done_steps (frame_steps rules (numbers_of s)) opened in
      let x : Shows = frame_shows rules (numbers_of s) in
      then_as (done_opening (frame_opens rules (numbers_of s)) s) (λ (u : Scene). and_then (done_steps (frame_steps rules (numbers_of s)) u) (done_showing x))
      (shown_of rules.m b)
      (then_as p (done_showing x) (published_by b) shows_done ∙ ap (λ (r : Played). and_then r (published_by b)) steps_done)
      ∙ (λ i. and_then (opens_as t q rules.progress s i) (shown_of rules.m (blends_as t q i)))

  -- the numbers after it
  frame_next : numbers_of (frame_of rules s).scene ≡ next_numbers rules (numbers_of s)
  unfolding done_by decided_of next_numbers and_then opened
  frame_next =
      let x : Shows = frame_shows rules (numbers_of s) in
      ap (λ (p : Played). numbers_of p.scene) (sym frame_done)
      ∙ showing x (done_steps (frame_steps rules (numbers_of s)) opened).scene
      ∙ ap (shown_by x) at_stepping

  -- whether it stops
  frame_stops_lem : (decided_of rules (numbers_of s)).stops ≡ frame_stops rules s
  unfolding decided_of frame_stops snapshot_of
  frame_stops_lem =
      ap (λ (n : Numbers). stops_in (status_in (numbers_of s)) (numbers_of s) n) (sym frame_next)
      ∙ stops_as (status_in (numbers_of s)) s (frame_of rules s).scene
      ∙ ap (λ (t : ReconciliationStatus). stops_of t (loads_of t s.worlds.snapshots.queued) s.worlds (frame_of rules s).scene.worlds) status_as

  -- the frame that is decided from the numbers of a scene is its frame
  pub decides : Decides rules s (decided_of rules (numbers_of s))
  unfolding decided_of
  decides = record { done = frame_done; next = sym frame_next; stops = frame_stops_lem }

-- the frame of every scene, whatever its buffers hold, is decided from its numbers
pub frame_decided : FrameDecided
unfolding FrameDecided
frame_decided rules n = record { decided = refl; decides = λ s h. rw (← h) (decides rules s) }
