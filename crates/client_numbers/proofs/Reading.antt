-- The numbers of a scene after each thing that a frame or a skip does to it. Assumes nothing.
use Rattle.std.proofs.Common.{◌≡◌, ℕ, zero, suc, Bool, true, false, cond, eqb, sym, refl, ap, ◌∙◌}
use lib.Ieee.{Float}
use Rattle.timestamp.specs.declared.Timestamp.{Timestamp}
use Rattle.tape.specs.declared.Side.{Side}
use Rattle.tape.specs.declared.Side.TheVariants.{Left, Right}
use Rattle.tape.specs.Sides.{is_left, other_of}
use Rattle.command.specs.declared.CommandBuffer.{CommandBuffer}
use Rattle.command.specs.Buffer.{moved_of, rest_of}
use Rattle.command.proofs.Ledger.{moved_stamp, emptied_stamp}
use Rattle.simulation.specs.declared.Simulation.{Simulation}
use Rattle.simulation.specs.World.{Done, next_stamp, step_of, reset_of, resets_back, flushed_of, kept_of, load_of, Load}
use Rattle.client.specs.declared.QueuedSnapshot.{QueuedSnapshot}
use Rattle.client.specs.declared.Scene.{Scene}
use Rattle.client.specs.Sides.{new_side_of, old_side_of, world_of, with_world, with_weight, with_worlds, world_stamp_of, old_stamp_of, new_stamp_of}
use Rattle.client.specs.Sides.{with_ledger, put_of}
use Rattle.client.specs.Sides.{still, and_then, done_at}
use Rattle.client_publish.specs.Publish.{published_none, published_side, published_mix}
use Rattle.client_load.specs.Load.{readied_with, loaded_at, loaded_of}
use Rattle.client_skip.specs.Skip.{reset_side, reset_along, reset_both, emptied_base, skips_back, skipped_of}
use Rattle.client_frame.specs.Frame.{reset_new, stepped_side, with_step, stepped_new}
use Rattle.client_numbers.specs.Numbers.{Numbers, Opens, Unchanged, Weight, LoadOld, LoadNew, Reset, Shows, NoWorld, OldWorld, NewWorld, Mix}
use Rattle.client_numbers.specs.Numbers.{numbers_with, loaded_into, weighted_with, opened_by, count_step, times, old_step_by, counted_with}
use Rattle.client_numbers.specs.Numbers.{new_steps_by, stepped_by, shown_by, skipped_numbers}
use Rattle.client_numbers.specs.Decided.{SkipDecided, numbers_of, done_opening, steps_new, done_steps, done_showing}

-- ---- one world

-- a world after a step
step_stamp : (w : Simulation) (x : ℕ) → world_stamp_of (step_of w x).world ≡ next_stamp (world_stamp_of w)
unfolding step_of
step_stamp w x = moved_stamp (rest_of w.commands (next_stamp w.commands.timestamp)) (next_stamp w.commands.timestamp)

step_init : (w : Simulation) (x : ℕ) → (step_of w x).world.init ≡ w.init
unfolding step_of
step_init w x = refl

-- a world after a reset
module _ (w : Simulation) (t : Timestamp) (x : ℕ) where
  reset_by : (b : Bool) → (world_stamp_of (cond b (flushed_of w t x) (kept_of w t)).world ≡ t) × ((cond b (flushed_of w t x) (kept_of w t)).world.init ≡ w.init)
  reset_by true = (emptied_stamp (moved_of w.commands t).buffer ∙ moved_stamp w.commands t, refl)
  reset_by false = (moved_stamp w.commands t, refl)

  reset_stamp : world_stamp_of (reset_of w t x).world ≡ t
  unfolding reset_of
  reset_stamp = (reset_by (resets_back t w.commands.timestamp)).0

  reset_init : (reset_of w t x).world.init ≡ w.init
  unfolding reset_of
  reset_init = (reset_by (resets_back t w.commands.timestamp)).1

-- a world after a load
load_stamp : (w : Simulation) (b : CommandBuffer) (t : Timestamp) → world_stamp_of (load_of w b t).world ≡ t
unfolding load_of
load_stamp w b t = moved_stamp b t

load_init : (w : Simulation) (b : CommandBuffer) (t : Timestamp) → (load_of w b t).world.init ≡ true
unfolding load_of
load_init w b t = refl

-- ---- a world put at a side

module _ (s : Scene) (d : Done) where
  old_by : (x : Side) → s.worlds.new ≡ x → numbers_of (done_at s (old_side_of s.worlds) d).scene
      ≡ numbers_with (numbers_of s) (world_stamp_of d.world) (numbers_of s).new d.world.init (numbers_of s).newinit
  unfolding numbers_of done_at put_of with_ledger with_world new_side_of old_side_of world_of old_stamp_of new_stamp_of
  old_by Left e = simp e
  old_by Right e = simp e

  new_by : (x : Side) → s.worlds.new ≡ x → numbers_of (done_at s (new_side_of s.worlds) d).scene
      ≡ numbers_with (numbers_of s) (numbers_of s).old (world_stamp_of d.world) (numbers_of s).oldinit d.world.init
  unfolding numbers_of done_at put_of with_ledger with_world new_side_of old_side_of world_of old_stamp_of new_stamp_of
  new_by Left e = simp e
  new_by Right e = simp e

-- something is done to the old world that leaves it initialised or not
done_old : (s : Scene) (d : Done) (t : Timestamp) → world_stamp_of d.world ≡ t → d.world.init ≡ (world_of s.worlds (old_side_of s.worlds)).init
    → numbers_of (done_at s (old_side_of s.worlds) d).scene ≡ numbers_with (numbers_of s) t (numbers_of s).new (numbers_of s).oldinit (numbers_of s).newinit
unfolding numbers_of
done_old s d t ht hi =
    old_by s d s.worlds.new refl ∙ (λ i. numbers_with (numbers_of s) (ht i) (numbers_of s).new (hi i) (numbers_of s).newinit)

-- and to the new one
done_new : (s : Scene) (d : Done) (t : Timestamp) → world_stamp_of d.world ≡ t → d.world.init ≡ (world_of s.worlds (new_side_of s.worlds)).init
    → numbers_of (done_at s (new_side_of s.worlds) d).scene ≡ numbers_with (numbers_of s) (numbers_of s).old t (numbers_of s).oldinit (numbers_of s).newinit
unfolding numbers_of
done_new s d t ht hi =
    new_by s d s.worlds.new refl ∙ (λ i. numbers_with (numbers_of s) (numbers_of s).old (ht i) (numbers_of s).oldinit (hi i))

-- ---- what a frame opens with

module _ (s : Scene) (c : CommandBuffer) (h : ℕ) (l : Load) where
  load_old_by : (x : Side) → s.worlds.new ≡ x → numbers_of (loaded_at s (old_side_of s.worlds) c h l).scene
      ≡ numbers_with (loaded_into (numbers_of s) (other_of (numbers_of s).side) (numbers_of s).new (numbers_of s).newinit (world_stamp_of l.world))
      (numbers_of s).new (world_stamp_of l.world) (numbers_of s).newinit l.world.init
  unfolding numbers_of loaded_at readied_with with_ledger with_world new_side_of old_side_of world_of old_stamp_of new_stamp_of
  load_old_by Left e = simp e
  load_old_by Right e = simp e

  load_new_by : (x : Side) → s.worlds.new ≡ x → numbers_of (loaded_at s (new_side_of s.worlds) c h l).scene
      ≡ numbers_with (loaded_into (numbers_of s) (numbers_of s).side (numbers_of s).old (numbers_of s).oldinit (world_stamp_of l.world))
      (numbers_of s).old (world_stamp_of l.world) (numbers_of s).oldinit l.world.init
  unfolding numbers_of loaded_at readied_with with_ledger with_world new_side_of old_side_of world_of old_stamp_of new_stamp_of
  load_new_by Left e = simp e
  load_new_by Right e = simp e

weighed : (s : Scene) (t : Float) → numbers_of (with_worlds s (with_weight s.worlds t)) ≡ weighted_with (numbers_of s) t
unfolding numbers_of new_side_of old_side_of world_of old_stamp_of new_stamp_of
weighed s t = refl

load_old : (s : Scene) (q : QueuedSnapshot) → numbers_of (loaded_of s (old_side_of s.worlds) q.stamp q.handle).scene ≡ opened_by (LoadOld q) (numbers_of s)
unfolding loaded_of
load_old s q =
    let b = rest_of s.worlds.base q.stamp in
    let w = world_of s.worlds (old_side_of s.worlds) in
    let n = numbers_of s in
    load_old_by s b q.handle (load_of w b q.stamp) s.worlds.new refl
    ∙ (λ i. numbers_with (loaded_into n (other_of n.side) n.new n.newinit q.stamp) n.new (load_stamp w b q.stamp i) n.newinit (load_init w b q.stamp i))

load_new : (s : Scene) (q : QueuedSnapshot) → numbers_of (loaded_of s (new_side_of s.worlds) q.stamp q.handle).scene ≡ opened_by (LoadNew q) (numbers_of s)
unfolding loaded_of
load_new s q =
    let b = rest_of s.worlds.base q.stamp in
    let w = world_of s.worlds (new_side_of s.worlds) in
    let n = numbers_of s in
    load_new_by s b q.handle (load_of w b q.stamp) s.worlds.new refl
    ∙ (λ i. numbers_with (loaded_into n n.side n.old n.oldinit q.stamp) n.old (load_stamp w b q.stamp i) n.oldinit (load_init w b q.stamp i))

reset_new_lem : (s : Scene) → numbers_of (reset_new s).scene ≡ opened_by Reset (numbers_of s)
unfolding reset_new numbers_of
reset_new_lem s =
    let w = world_of s.worlds (new_side_of s.worlds) in
    done_new s (reset_of w (old_stamp_of s.worlds) (new_side_of s.worlds)) (old_stamp_of s.worlds)
    (reset_stamp w (old_stamp_of s.worlds) (new_side_of s.worlds)) (reset_init w (old_stamp_of s.worlds) (new_side_of s.worlds))

-- the numbers after what a frame opens with
pub opening : (o : Opens) (s : Scene) → numbers_of (done_opening o s).scene ≡ opened_by o (numbers_of s)
unfolding done_opening
opening Unchanged s = refl
opening (Weight t) s = weighed s t
opening (LoadOld q) s = load_old s q
opening (LoadNew q) s = load_new s q
opening Reset s = reset_new_lem s

-- ---- the worlds' steps

pub step_old : (s : Scene) → numbers_of (stepped_side s (old_side_of s.worlds)).scene ≡ old_step_by (numbers_of s)
unfolding stepped_side numbers_of old_stamp_of
step_old s =
    let x = old_side_of s.worlds in
    let w = world_of s.worlds x in
    done_old s (step_of w x) (next_stamp (world_stamp_of w)) (step_stamp w x) (step_init w x)

counted : (u : Scene) → numbers_of (with_step u) ≡ counted_with (numbers_of u) (count_step (numbers_of u).steps)
unfolding numbers_of
counted u = refl

-- a step of the new world
pub step_new : (s : Scene) → numbers_of (stepped_new s).scene ≡ new_steps_by 1 (numbers_of s)
unfolding stepped_new stepped_side numbers_of new_stamp_of times
step_new s =
    let x = new_side_of s.worlds in
    let w = world_of s.worlds x in
    counted (done_at s x (step_of w x)).scene
    ∙ ap (λ (n : Numbers). counted_with n (count_step n.steps)) (done_new s (step_of w x) (next_stamp (world_stamp_of w)) (step_stamp w x) (step_init w x))

steps_new_lem : (k : ℕ) (s : Scene) → numbers_of (steps_new k s).scene ≡ new_steps_by k (numbers_of s)
unfolding steps_new times and_then
steps_new_lem zero s = refl
steps_new_lem (suc k) s = steps_new_lem k (stepped_new s).scene ∙ ap (new_steps_by k) (step_new s)

-- the numbers after the worlds' steps
pub stepping : (k : ℕ) (s : Scene) → numbers_of (done_steps k s).scene ≡ stepped_by k (numbers_of s)
unfolding done_steps stepped_by and_then
stepping k s = steps_new_lem k (stepped_side s (old_side_of s.worlds)).scene ∙ ap (new_steps_by k) (step_old s)

-- ---- what is published

-- the numbers after it
pub showing : (x : Shows) (s : Scene) → numbers_of (done_showing x s).scene ≡ shown_by x (numbers_of s)
unfolding numbers_of new_side_of old_side_of world_of old_stamp_of new_stamp_of done_showing shown_by published_none published_side published_mix
showing NoWorld s = refl
showing OldWorld s = refl
showing NewWorld s = refl
showing (Mix t) s = refl

-- ---- a skip

reset_old : (s : Scene) (t : Timestamp) → numbers_of (reset_side s (old_side_of s.worlds) t).scene
    ≡ numbers_with (numbers_of s) t (numbers_of s).new (numbers_of s).oldinit (numbers_of s).newinit
unfolding reset_side
reset_old s t =
    let x = old_side_of s.worlds in
    let w = world_of s.worlds x in
    done_old s (reset_of w t x) t (reset_stamp w t x) (reset_init w t x)

-- the new world goes along
along : (s : Scene) (t : Timestamp) → numbers_of (reset_along s t).scene
    ≡ numbers_with (numbers_of s) (numbers_of s).old (skipped_numbers (numbers_of s) t).new (numbers_of s).oldinit (numbers_of s).newinit
unfolding reset_along reset_side numbers_of skipped_numbers
along s t = go (eqb (new_stamp_of s.worlds).0 (old_stamp_of s.worlds).0)
  where
    go : (b : Bool) → numbers_of (cond b (reset_side s (new_side_of s.worlds) t) (still s)).scene
        ≡ numbers_with (numbers_of s) (numbers_of s).old (cond b t (numbers_of s).new) (numbers_of s).oldinit (numbers_of s).newinit
    go true =
        let x = new_side_of s.worlds in
        let w = world_of s.worlds x in
        done_new s (reset_of w t x) t (reset_stamp w t x) (reset_init w t x)
    go false = refl

-- which side is the old one stays
same_side : (s u : Scene) → (numbers_of u).side ≡ (numbers_of s).side → old_side_of u.worlds ≡ old_side_of s.worlds
unfolding numbers_of old_side_of
same_side s u e = ap (λ (x : Side). cond (is_left x) 1 0) e

both : (s : Scene) (t : Timestamp) → numbers_of (reset_both s t).scene ≡ skipped_numbers (numbers_of s) t
unfolding reset_both and_then skipped_numbers
both s t =
    let u = (reset_along s t).scene in
    let e = along s t in
    ap (λ (x : ℕ). numbers_of (reset_side u x t).scene) (sym (same_side s u (ap (λ (n : Numbers). n.side) e)))
    ∙ reset_old u t ∙ ap (λ (n : Numbers). numbers_with n t n.new n.oldinit n.newinit) e

emptied : (b : Bool) (s : Scene) → numbers_of (emptied_base b s) ≡ numbers_of s
unfolding numbers_of new_side_of old_side_of world_of old_stamp_of new_stamp_of
emptied true s = refl
emptied false s = refl

-- the numbers after a skip
skips : (s : Scene) (t : Timestamp) → numbers_of (skipped_of s t).scene ≡ skipped_numbers (numbers_of s) t
unfolding skipped_of
skips s t = emptied (skips_back t (old_stamp_of s.worlds)) (reset_both s t).scene ∙ both s t

-- the numbers of every scene after a skip, whatever its buffers hold
pub skip_decided : SkipDecided
unfolding SkipDecided
skip_decided n t = record { skipped = refl; skips = λ s h. ap (λ (x : Numbers). skipped_numbers x t) (sym h) ∙ sym (skips s t) }
