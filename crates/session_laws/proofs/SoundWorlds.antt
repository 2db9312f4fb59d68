-- Worlds stay sound where one thing is done to them: a command or a snapshot arrives, a world steps, is reset or is loaded, a state is published, the base is
-- moved. Assumes nothing.
use mathlib.Core.Path.{◌≡◌, refl, sym, ap, ◌∙◌, subst}
use mathlib.Core.Bool.{Bool, true, false, cond}
use Prim.Native.Nat.{ℕ, ◌^◌, ◌<◌}
use lib.Dec.{T, eqb}
use lib.Ieee.{Float, eq, le}
use Rattle.timestamp.specs.Floats.{zero64, one64}
use Rattle.timestamp.specs.declared.Timestamp.{Timestamp}
use Rattle.command.specs.declared.CommandBuffer.{CommandBuffer}
use Rattle.command.specs.Entries.{Entry, plain_entry}
use Rattle.command.specs.Buffer.{inserted_of, moved_of, rest_of}
use Rattle.command.specs.Soundness.{sound_buffer}
use Rattle.command.proofs.Soundness.{new_sound, inserted_sound, moved_sound, rest_sound, emptied_sound}
use Rattle.command.proofs.Ledger.{inserted_stamp, moved_stamp, emptied_stamp}
use Rattle.simulation.specs.declared.Simulation.{Simulation}
use Rattle.simulation.specs.World.{Done, Load, next_stamp, scheduled_of, step_of, resets_back, kept_of, flushed_of, reset_of, load_of}
use Rattle.client.specs.declared.QueuedSnapshot.{QueuedSnapshot}
use Rattle.std.specs.Prelude.{Option, Some, None}
use Rattle.tape.specs.declared.Side.{Side}
use Rattle.tape.specs.declared.Side.TheVariants.{Left, Right}
use Rattle.tape.specs.Sides.{is_left, side_number}
use Rattle.client.specs.declared.Snapshots.{Snapshots}
use Rattle.client.specs.declared.Published.{Published}
use Rattle.client.specs.declared.ClientWorldSimulations.{ClientWorldSimulations}
use Rattle.client.specs.declared.Ledger.{Ledger}
use Rattle.client.specs.declared.Scene.{Scene}
use Rattle.client.specs.Sides.{new_side_of, old_side_of, world_of, with_world, with_base, with_snapshots, with_weight, with_published, with_worlds, with_ledger}
use Rattle.client.specs.Sides.{world_stamp_of, old_stamp_of, new_stamp_of, new_worlds_of, put_of, done_at, with_left, with_right, with_ledgers}
use Rattle.client_load.specs.Load.{readied_with, loaded_at, loaded_of}
use Rattle.client_receive.specs.Receive.{offered_base, offered_side, received_of, from_future_of, fresh_of, snapshots_by, snapshots_of, notes_of}

-- ---- what stays sound

-- a queued snapshot's handle is within 24 bits
abbrev pub SmallQueued : Option QueuedSnapshot → Type 0
SmallQueued None = Unit {0}
SmallQueued (Some q) = q.handle < 2 ^ 24

-- the old world is initialised only if the new one is; the test says that the left world is new
abbrev pub InitOrder : Bool → Bool → Bool → Type 0
InitOrder true left right = right ≡ true → left ≡ true
InitOrder false left right = left ≡ true → right ≡ true

-- the three buffers, the queued snapshot and the order of initialisation are sound
pub record Kept (w : ClientWorldSimulations) : Type 0 where
  pub left : sound_buffer w.left.commands ≡ true
  pub right : sound_buffer w.right.commands ≡ true
  pub base : sound_buffer w.base ≡ true
  pub queued : SmallQueued w.snapshots.queued
  pub init : InitOrder (is_left w.new) w.left.init w.right.init

-- the weight is 0, or it is from 0 to 1 and the stamps are equal
pub data Weighed (w : ClientWorldSimulations) : Type 0 where
  is_nought : T (eq w.weight zero64) → Weighed w
  is_even : (old_stamp_of w).0 ≡ (new_stamp_of w).0 → T (le zero64 w.weight) → T (le w.weight one64) → Weighed w

-- ---- the world of a side

-- the buffer of a side is sound
pub side_sound : (w : ClientWorldSimulations) (side : ℕ) → Kept w → sound_buffer (world_of w side).commands ≡ true
unfolding world_of
side_sound w side k = go (eqb side 0)
  where
    go : (b : Bool) → sound_buffer (cond b w.left w.right).commands ≡ true
    go true = k.left
    go false = k.right

-- a world that is as much initialised as the one that it takes the place of
pub put_kept : (w : ClientWorldSimulations) (side : ℕ) (x : Simulation) → sound_buffer x.commands ≡ true → x.init ≡ (world_of w side).init → Kept w
    → Kept (with_world w side x)
unfolding world_of with_world
put_kept w side x h i k = go (eqb side 0) i
  where
    go : (b : Bool) → x.init ≡ (cond b w.left w.right).init → Kept (cond b (with_left w x) (with_right w x))
    go true e =
        record {
          left = h;
          right = k.right;
          base = k.base;
          queued = k.queued;
          init = subst (λ (v : Bool). InitOrder (is_left w.new) v w.right.init) (sym e) k.init;
        }
    go false e =
        record {
          left = k.left;
          right = h;
          base = k.base;
          queued = k.queued;
          init = subst (λ (v : Bool). InitOrder (is_left w.new) w.left.init v) (sym e) k.init;
        }

-- another world at a side leaves the weight
pub put_weight : (w : ClientWorldSimulations) (side : ℕ) (x : Simulation) → (with_world w side x).weight ≡ w.weight
unfolding with_world
put_weight w side x = go (eqb side 0)
  where
    go : (b : Bool) → (cond b (with_left w x) (with_right w x)).weight ≡ w.weight
    go true = refl
    go false = refl

module _ (w : ClientWorldSimulations) (x : Simulation) where
  -- the stamps after another world at the old side
  pub old_at_old : old_stamp_of (with_world w (old_side_of w) x) ≡ world_stamp_of x
  unfolding old_stamp_of with_world world_of old_side_of
  old_at_old = go (is_left w.new) refl
    where
      go : (b : Bool) → is_left w.new ≡ b → old_stamp_of (cond (eqb (cond b 1 0) 0) (with_left w x) (with_right w x)) ≡ world_stamp_of x
      go true e = simp e
      go false e = simp e

  pub new_at_old : new_stamp_of (with_world w (old_side_of w) x) ≡ new_stamp_of w
  unfolding new_stamp_of with_world world_of old_side_of new_side_of
  new_at_old = go (is_left w.new) refl
    where
      go : (b : Bool) → is_left w.new ≡ b → new_stamp_of (cond (eqb (cond b 1 0) 0) (with_left w x) (with_right w x)) ≡ new_stamp_of w
      go true e = simp e
      go false e = simp e

  -- and at the new side
  pub new_at_new : new_stamp_of (with_world w (new_side_of w) x) ≡ world_stamp_of x
  unfolding new_stamp_of with_world world_of new_side_of
  new_at_new = go (is_left w.new) refl
    where
      go : (b : Bool) → is_left w.new ≡ b → new_stamp_of (cond (eqb (cond b 0 1) 0) (with_left w x) (with_right w x)) ≡ world_stamp_of x
      go true e = simp e
      go false e = simp e

  pub old_at_new : old_stamp_of (with_world w (new_side_of w) x) ≡ old_stamp_of w
  unfolding old_stamp_of with_world world_of old_side_of new_side_of
  old_at_new = go (is_left w.new) refl
    where
      go : (b : Bool) → is_left w.new ≡ b → old_stamp_of (cond (eqb (cond b 0 1) 0) (with_left w x) (with_right w x)) ≡ old_stamp_of w
      go true e = simp e
      go false e = simp e

-- another world leaves the sides
put_new : (w : ClientWorldSimulations) (side : ℕ) (x : Simulation) → (with_world w side x).new ≡ w.new
unfolding with_world
put_new w side x = go (eqb side 0)
  where
    go : (b : Bool) → (cond b (with_left w x) (with_right w x)).new ≡ w.new
    go true = refl
    go false = refl

pub put_old_side : (w : ClientWorldSimulations) (side : ℕ) (x : Simulation) → old_side_of (with_world w side x) ≡ old_side_of w
unfolding old_side_of
put_old_side w side x = ap (λ (n : Side). cond (is_left n) 1 0) (put_new w side x)

-- a world of the same stamp at any side leaves both stamps
module _ (w : ClientWorldSimulations) (side : ℕ) (x : Simulation) (e : world_stamp_of x ≡ world_stamp_of (world_of w side)) where
  same_at : (b : Bool) (other : ℕ) → world_stamp_of x ≡ world_stamp_of (cond b w.left w.right)
      → world_stamp_of (world_of (cond b (with_left w x) (with_right w x)) other) ≡ world_stamp_of (world_of w other)
  unfolding world_of
  same_at true other i = go (eqb other 0)
    where
      go : (c : Bool) → world_stamp_of (cond c x w.right) ≡ world_stamp_of (cond c w.left w.right)
      go true = i
      go false = refl
  same_at false other i = go (eqb other 0)
    where
      go : (c : Bool) → world_stamp_of (cond c w.left x) ≡ world_stamp_of (cond c w.left w.right)
      go true = refl
      go false = i

  pub same_stamp : (other : ℕ) → world_stamp_of (world_of (with_world w side x) other) ≡ world_stamp_of (world_of w other)
  unfolding with_world world_of
  same_stamp other = same_at (eqb side 0) other e

  pub same_old : old_stamp_of (with_world w side x) ≡ old_stamp_of w
  unfolding old_stamp_of old_side_of
  same_old = same_stamp (old_side_of (with_world w side x)) ∙ ap (λ (n : Side). world_stamp_of (world_of w (cond (is_left n) 1 0))) (put_new w side x)

  pub same_new : new_stamp_of (with_world w side x) ≡ new_stamp_of w
  unfolding new_stamp_of new_side_of
  same_new = same_stamp (new_side_of (with_world w side x)) ∙ ap (λ (n : Side). world_stamp_of (world_of w (side_number n))) (put_new w side x)

-- ---- worlds that differ in what the weight does not depend on

-- worlds of the same stamps and weight as others are weighed as they are
pub weighed_as : (v w : ClientWorldSimulations) → v.weight ≡ w.weight → old_stamp_of v ≡ old_stamp_of w → new_stamp_of v ≡ new_stamp_of w → Weighed w →
    Weighed v
weighed_as v w e o n (is_nought h) = is_nought (subst (λ (t : Float). T (eq t zero64)) (sym e) h)
weighed_as v w e o n (is_even h a b) =
    is_even (ap (λ (t : Timestamp). t.0) o ∙ h ∙ sym (ap (λ (t : Timestamp). t.0) n)) (subst (λ (t : Float). T (le zero64 t)) (sym e) a)
    (subst (λ (t : Float). T (le t one64)) (sym e) b)

-- another base
pub base_kept : (w : ClientWorldSimulations) (b : CommandBuffer) → sound_buffer b ≡ true → Kept w → Kept (with_base w b)
base_kept w b h k = record { left = k.left; right = k.right; base = h; queued = k.queued; init = k.init }

pub base_weighed : (w : ClientWorldSimulations) (b : CommandBuffer) → Weighed w → Weighed (with_base w b)
unfolding old_stamp_of new_stamp_of old_side_of new_side_of world_of
base_weighed w b h = weighed_as (with_base w b) w refl refl refl h

-- other snapshots
pub snapshots_kept : (w : ClientWorldSimulations) (s : Snapshots) → SmallQueued s.queued → Kept w → Kept (with_snapshots w s)
snapshots_kept w s h k = record { left = k.left; right = k.right; base = k.base; queued = h; init = k.init }

pub snapshots_weighed : (w : ClientWorldSimulations) (s : Snapshots) → Weighed w → Weighed (with_snapshots w s)
unfolding old_stamp_of new_stamp_of old_side_of new_side_of world_of
snapshots_weighed w s h = weighed_as (with_snapshots w s) w refl refl refl h

-- other published states
pub published_kept : (w : ClientWorldSimulations) (p : Published) → Kept w → Kept (with_published w p)
published_kept w p k = record { left = k.left; right = k.right; base = k.base; queued = k.queued; init = k.init }

pub published_weighed : (w : ClientWorldSimulations) (p : Published) → Weighed w → Weighed (with_published w p)
unfolding old_stamp_of new_stamp_of old_side_of new_side_of world_of
published_weighed w p h = weighed_as (with_published w p) w refl refl refl h

-- another weight
pub weight_kept : (w : ClientWorldSimulations) (t : Float) → Kept w → Kept (with_weight w t)
weight_kept w t k = record { left = k.left; right = k.right; base = k.base; queued = k.queued; init = k.init }

pub weight_weighed : (w : ClientWorldSimulations) (t : Float) → (old_stamp_of w).0 ≡ (new_stamp_of w).0 → T (le zero64 t) → T (le t one64) → Weighed
    (with_weight w t)
unfolding old_stamp_of new_stamp_of old_side_of new_side_of world_of
weight_weighed w t e a b = is_even e a b

-- ---- scenes

-- a ledger leaves the worlds
pub ledger_worlds : (s : Scene) (side : ℕ) (l : Ledger) → (with_ledger s side l).worlds ≡ s.worlds
unfolding with_ledger
ledger_worlds s side l = go (eqb side 0)
  where
    go : (b : Bool) → (cond b (with_ledgers s l s.right) (with_ledgers s s.left l)).worlds ≡ s.worlds
    go true = refl
    go false = refl

-- what is done to the world of a side puts it there
pub done_worlds : (s : Scene) (side : ℕ) (d : Done) → (done_at s side d).scene.worlds ≡ with_world s.worlds side d.world
unfolding done_at put_of
done_worlds s side d = ledger_worlds (with_worlds s (with_world s.worlds side d.world)) side _

pub done_kept : (s : Scene) (side : ℕ) (d : Done) → sound_buffer d.world.commands ≡ true → d.world.init ≡ (world_of s.worlds side).init
    → Kept s.worlds → Kept (done_at s side d).scene.worlds
done_kept s side d h i k = subst Kept (sym (done_worlds s side d)) (put_kept s.worlds side d.world h i k)

pub done_weight : (s : Scene) (side : ℕ) (d : Done) → (done_at s side d).scene.worlds.weight ≡ s.worlds.weight
done_weight s side d = ap (λ (w : ClientWorldSimulations). w.weight) (done_worlds s side d) ∙ put_weight s.worlds side d.world

-- ---- one world

pub step_init : (w : Simulation) (side : ℕ) → (step_of w side).world.init ≡ w.init
unfolding step_of
step_init w side = refl

pub step_sound : (w : Simulation) (side : ℕ) → sound_buffer w.commands ≡ true → sound_buffer (step_of w side).world.commands ≡ true
unfolding step_of
step_sound w side h = moved_sound (rest_of w.commands (next_stamp w.commands.timestamp)) (next_stamp w.commands.timestamp)
    (rest_sound w.commands (next_stamp w.commands.timestamp) h)

-- a step moves the stamp on
pub step_stamp : (w : Simulation) (side : ℕ) → world_stamp_of (step_of w side).world ≡ next_stamp (world_stamp_of w)
unfolding step_of
step_stamp w side = moved_stamp (rest_of w.commands (next_stamp w.commands.timestamp)) (next_stamp w.commands.timestamp)

module _ (w : Simulation) (t : Timestamp) (side : ℕ) where
  pub reset_init : (reset_of w t side).world.init ≡ w.init
  unfolding reset_of
  reset_init = go (resets_back t w.commands.timestamp)
    where
      go : (b : Bool) → (cond b (flushed_of w t side) (kept_of w t)).world.init ≡ w.init
      go true = refl
      go false = refl

  pub reset_sound : sound_buffer w.commands ≡ true → sound_buffer (reset_of w t side).world.commands ≡ true
  unfolding reset_of
  reset_sound h = go (resets_back t w.commands.timestamp)
    where
      go : (b : Bool) → sound_buffer (cond b (flushed_of w t side) (kept_of w t)).world.commands ≡ true
      go true = emptied_sound (moved_of w.commands t).buffer (moved_sound w.commands t h)
      go false = moved_sound w.commands t h

  -- a reset sets the stamp
  pub reset_stamp : world_stamp_of (reset_of w t side).world ≡ t
  unfolding reset_of
  reset_stamp = go (resets_back t w.commands.timestamp)
    where
      go : (b : Bool) → world_stamp_of (cond b (flushed_of w t side) (kept_of w t)).world ≡ t
      go true = emptied_stamp (moved_of w.commands t).buffer ∙ moved_stamp w.commands t
      go false = moved_stamp w.commands t

pub scheduled_init : (w : Simulation) (e : Entry) → (scheduled_of w e).world.init ≡ w.init
unfolding scheduled_of
scheduled_init w e = refl

pub scheduled_sound : (w : Simulation) (e : Entry) → plain_entry e ≡ true → sound_buffer w.commands ≡ true
    → sound_buffer (scheduled_of w e).world.commands ≡ true
unfolding scheduled_of
scheduled_sound w e h k = inserted_sound w.commands e h k

pub scheduled_stamp : (w : Simulation) (e : Entry) → world_stamp_of (scheduled_of w e).world ≡ world_stamp_of w
unfolding scheduled_of
scheduled_stamp w e = inserted_stamp w.commands e

-- ---- arrivals

offered_base_kept : (s : Scene) (e : Entry) → plain_entry e ≡ true → Kept s.worlds → Kept (offered_base s e).scene.worlds
unfolding offered_base
offered_base_kept s e h k = base_kept s.worlds (inserted_of s.worlds.base e).buffer (inserted_sound s.worlds.base e h k.base) k

offered_base_weighed : (s : Scene) (e : Entry) → Weighed s.worlds → Weighed (offered_base s e).scene.worlds
unfolding offered_base
offered_base_weighed s e k = base_weighed s.worlds (inserted_of s.worlds.base e).buffer k

offered_worlds : (s : Scene) (side : ℕ) (e : Entry) → (offered_side s side e).scene.worlds ≡ with_world s.worlds side
    (scheduled_of (world_of s.worlds side) e).world
unfolding offered_side
offered_worlds s side e = ledger_worlds (with_worlds s (with_world s.worlds side (scheduled_of (world_of s.worlds side) e).world)) side _

offered_side_kept : (s : Scene) (side : ℕ) (e : Entry) → plain_entry e ≡ true → Kept s.worlds → Kept (offered_side s side e).scene.worlds
offered_side_kept s side e h k =
    let x = world_of s.worlds side in
    subst Kept (sym (offered_worlds s side e)) (put_kept s.worlds side (scheduled_of x e).world
    (scheduled_sound x e h (side_sound s.worlds side k)) (scheduled_init x e) k)

offered_side_weighed : (s : Scene) (side : ℕ) (e : Entry) → Weighed s.worlds → Weighed (offered_side s side e).scene.worlds
offered_side_weighed s side e k =
    let w = s.worlds in
    let x = (scheduled_of (world_of w side) e).world in
    let i = scheduled_stamp (world_of w side) e in
    subst Weighed (sym (offered_worlds s side e)) (weighed_as (with_world w side x) w (put_weight w side x) (same_old w side x i) (same_new w side x i) k)

-- a command arrives
pub received_kept : (s : Scene) (e : Entry) → plain_entry e ≡ true → Kept s.worlds → Kept (received_of s e).scene.worlds
unfolding received_of
received_kept s e h k =
    let a = (offered_base s e).scene in
    let b = (offered_side a (old_side_of s.worlds) e).scene in
    offered_side_kept b (new_side_of s.worlds) e h (offered_side_kept a (old_side_of s.worlds) e h (offered_base_kept s e h k))

pub received_weighed : (s : Scene) (e : Entry) → Weighed s.worlds → Weighed (received_of s e).scene.worlds
unfolding received_of
received_weighed s e k =
    let a = (offered_base s e).scene in
    let b = (offered_side a (old_side_of s.worlds) e).scene in
    offered_side_weighed b (new_side_of s.worlds) e (offered_side_weighed a (old_side_of s.worlds) e (offered_base_weighed s e k))

-- a snapshot arrives
noted_small : (f n : Bool) (s : Snapshots) (t : Timestamp) (h : ℕ) → h < 2 ^ 24 → SmallQueued s.queued → SmallQueued (snapshots_by f n s t h).queued
unfolding snapshots_by
noted_small true n s t h i k = k
noted_small false true s t h i k = i
noted_small false false s t h i k = k

pub noted_kept : (w : ClientWorldSimulations) (t : Timestamp) (h : ℕ) → h < 2 ^ 24 → Kept w → Kept (notes_of w t h)
unfolding notes_of snapshots_of
noted_kept w t h i k = snapshots_kept w (snapshots_of w.snapshots (old_stamp_of w) t h)
    (noted_small (from_future_of t (old_stamp_of w)) (fresh_of w.snapshots.lastqueued t) w.snapshots t h i k.queued) k

pub noted_weighed : (w : ClientWorldSimulations) (t : Timestamp) (h : ℕ) → Weighed w → Weighed (notes_of w t h)
unfolding notes_of
noted_weighed w t h k = snapshots_weighed w (snapshots_of w.snapshots (old_stamp_of w) t h) k

-- ---- new worlds

pub new_kept : (t : Timestamp) → Kept (new_worlds_of t)
unfolding new_worlds_of
new_kept t = record { left = new_sound t; right = new_sound t; base = new_sound (record { 0 = 0 }); queued = tt; init = λ h. h }

pub new_weighed : (t : Timestamp) → Weighed (new_worlds_of t)
unfolding new_worlds_of old_stamp_of new_stamp_of old_side_of new_side_of world_of le
new_weighed t = is_even refl tt tt

-- ---- a load

loaded_worlds : (s : Scene) (side : ℕ) (b : CommandBuffer) (h : ℕ) (l : Load)
    → (loaded_at s side b h l).scene.worlds ≡ with_world (readied_with s.worlds side b) side l.world
unfolding loaded_at
loaded_worlds s side b h l = ledger_worlds (with_worlds s (with_world (readied_with s.worlds side b) side l.world)) side _

readied_kept : (w : ClientWorldSimulations) (side : ℕ) (b : CommandBuffer) (x : Simulation) → sound_buffer b ≡ true → sound_buffer x.commands ≡ true
    → x.init ≡ true → Kept w → Kept (with_world (readied_with w side b) side x)
unfolding readied_with with_world
readied_kept w side b x hb hx i k = go (eqb side 0) refl
  where
    -- the side that is loaded is the new one
    order : Bool → Bool → Bool → Type 0
    order left l r = InitOrder (is_left (cond left Left Right)) l r

    go : (c : Bool) → eqb side 0 ≡ c → Kept (cond c (with_left (readied_with w side b) x) (with_right (readied_with w side b) x))
    go true e =
        record { left = hx; right = k.right; base = hb; queued = tt; init = subst (λ (v : Bool). order v x.init w.right.init) (sym e) (λ h. i) }
    go false e =
        record { left = k.left; right = hx; base = hb; queued = tt; init = subst (λ (v : Bool). order v w.left.init x.init) (sym e) (λ h. i) }

-- a load leaves the worlds sound, since its base is drained first and then moved
pub loaded_kept : (s : Scene) (side : ℕ) (t : Timestamp) (h : ℕ) → Kept s.worlds → Kept (loaded_of s side t h).scene.worlds
unfolding loaded_of load_of
loaded_kept s side t h k =
    let b = rest_of s.worlds.base t in
    let r = rest_sound s.worlds.base t k.base in
    subst Kept (sym (loaded_worlds s side b h (load_of (world_of s.worlds side) b t)))
    (readied_kept s.worlds side b (load_of (world_of s.worlds side) b t).world r (moved_sound b t r) refl k)

-- and the weight at 0
pub loaded_weighed : (s : Scene) (side : ℕ) (t : Timestamp) (h : ℕ) → Weighed (loaded_of s side t h).scene.worlds
unfolding loaded_of readied_with eq
loaded_weighed s side t h =
    let b = rest_of s.worlds.base t in
    let l = load_of (world_of s.worlds side) b t in
    let e : (loaded_at s side b h l).scene.worlds.weight ≡ zero64 = ap (λ (w : ClientWorldSimulations). w.weight) (loaded_worlds s side b h l)
    ∙ put_weight (readied_with s.worlds side b) side l.world in
    is_nought (subst (λ (x : Float). T (eq x zero64)) (sym e) tt)
