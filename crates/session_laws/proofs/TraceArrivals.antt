-- What arrives, a skip, and the end of an update: which of them change sides, stamps and weight. Assumes nothing.
use mathlib.Core.Path.{◌≡◌, refl, ap, sym, ◌∙◌}
use mathlib.Core.Bool.{Bool, true, false, cond}
use Prim.Native.Nat.{ℕ, ◌<◌}
use native.Mathlib.Omega.{arith}
use lib.Dec.{eqb}
use lib.Ieee.{Float}
use Rattle.timestamp.specs.declared.Timestamp.{Timestamp}
use Rattle.tape.specs.Sides.{is_left}
use Rattle.tape.specs.Words.{steps_on}
use Rattle.command.specs.Entries.{Entry}
use Rattle.command.specs.Buffer.{taken_by}
use Rattle.command.proofs.Ledger.{inserted_stamp}
use Rattle.simulation.specs.declared.Simulation.{Simulation}
use Rattle.simulation.specs.World.{Done, scheduled_of, reset_of}
use Rattle.client.specs.declared.Snapshots.{Snapshots}
use Rattle.client.specs.declared.ClientWorldSimulations.{ClientWorldSimulations}
use Rattle.client.specs.declared.Ledger.{Ledger}
use Rattle.client.specs.declared.Scene.{Scene}
use Rattle.client.specs.Ledgers.{takes}
use Rattle.client.specs.Sides.{new_side_of, old_side_of, world_of, with_world, with_worlds, with_ledger, ledger_of, world_stamp_of, old_stamp_of}
use Rattle.client.specs.Sides.{new_stamp_of, Played, still}
use Rattle.client.specs.Sides.{and_then, done_at}
use Rattle.client_receive.specs.Receive.{offered_base, offered_side, received_of, from_future_of, fresh_of, snapshots_by, snapshots_of, notes_of}
use Rattle.client_skip.specs.Skip.{reset_side, reset_along, skips_back, emptied_base, reset_both, skipped_of}
use Rattle.client_publish.specs.Ending.{post_update_of}
use Rattle.session_laws.proofs.SoundWorlds.{done_worlds, reset_stamp}
use Rattle.session_laws.proofs.TraceStamps.{lag_of, Restamped, put_at_old, put_at_new, ledger_keeps, done_steps_lem, done_words, reset_marks}
use Rattle.session_laws.proofs.TraceSteps.{lag_in, then_scene, then_marks}
use Rattle.session_laws.proofs.TraceFrames.{QueuedFits, Fitting}

-- two pairs of worlds with the same sides, stamps and weight
pub record Alike (v w : ClientWorldSimulations) : Type 0 where
  pub side : new_side_of v ≡ new_side_of w
  pub old : old_stamp_of v ≡ old_stamp_of w
  pub new : new_stamp_of v ≡ new_stamp_of w
  pub weight : v.weight ≡ w.weight

pub alike_self : (v : ClientWorldSimulations) → Alike v v
alike_self v = record { side = refl; old = refl; new = refl; weight = refl }

pub alike_then : {u v w : ClientWorldSimulations} → Alike u v → Alike v w → Alike u w
alike_then h k = record { side = h.side ∙ k.side; old = h.old ∙ k.old; new = h.new ∙ k.new; weight = h.weight ∙ k.weight }

pub alike_fitting : {v w : ClientWorldSimulations} → Alike v w → QueuedFits w.snapshots.queued → Fitting v → Fitting w
alike_fitting h q f = record { old = rw (← h.old) f.old; new = rw (← h.new) f.new; queued = q }

pub alike_lag : {v w : ClientWorldSimulations} → Alike v w → lag_in v ≡ lag_in w
alike_lag h = (λ i. lag_of (h.old i).0 (h.new i).0)

-- ---- commands

-- another world with the same stamp, at any side
module _ (w : ClientWorldSimulations) (x : ℕ) (W : Simulation) (h : world_stamp_of W ≡ world_stamp_of (world_of w x)) where
  put_by : (a b : Bool) → eqb x 0 ≡ a → is_left w.new ≡ b → Alike w (with_world w x W)
  unfolding new_side_of old_side_of world_of with_world old_stamp_of new_stamp_of
  put_by true true ea eb = record { side = simp (ea, eb); old = simp (ea, eb); new = simp (ea, eb) (sym (simp ea at h)); weight = simp ea }
  put_by true false ea eb = record { side = simp (ea, eb); old = simp (ea, eb) (sym (simp ea at h)); new = simp (ea, eb); weight = simp ea }
  put_by false true ea eb = record { side = simp (ea, eb); old = simp (ea, eb) (sym (simp ea at h)); new = simp (ea, eb); weight = simp ea }
  put_by false false ea eb = record { side = simp (ea, eb); old = simp (ea, eb); new = simp (ea, eb) (sym (simp ea at h)); weight = simp ea }

  pub put_alike : Alike w (with_world w x W)
  put_alike = put_by (eqb x 0) (is_left w.new) refl refl

put_snapshots_by : (w : ClientWorldSimulations) (x : ℕ) (W : Simulation) (a : Bool) → eqb x 0 ≡ a → (with_world w x W).snapshots ≡ w.snapshots
unfolding with_world
put_snapshots_by w x W true e = simp e
put_snapshots_by w x W false e = simp e

-- what was offered to a scene leaves its stamps, its snapshots and its count of steps
pub record Offers (s t : Scene) : Type 0 where
  pub alike : Alike s.worlds t.worlds
  pub snapshots : t.worlds.snapshots ≡ s.worlds.snapshots
  pub steps : t.steps ≡ s.steps

pub offers_self : (s : Scene) → Offers s s
offers_self s = record { alike = alike_self s.worlds; snapshots = refl; steps = refl }

pub offers_then : {s t u : Scene} → Offers s t → Offers t u → Offers s u
offers_then h k = record { alike = alike_then h.alike k.alike; snapshots = k.snapshots ∙ h.snapshots; steps = k.steps ∙ h.steps }

offers_base : (s : Scene) (e : Entry) → Offers s (offered_base s e).scene
unfolding offered_base new_side_of old_side_of world_of old_stamp_of new_stamp_of
offers_base s e = record { alike = record { side = refl; old = refl; new = refl; weight = refl }; snapshots = refl; steps = refl }

scheduled_stamp : (w : Simulation) (e : Entry) → world_stamp_of (scheduled_of w e).world ≡ world_stamp_of w
unfolding scheduled_of
scheduled_stamp w e = inserted_stamp w.commands e

offers_put : (s : Scene) (x : ℕ) (W : Simulation) (l : Ledger) → world_stamp_of W ≡ world_stamp_of (world_of s.worlds x)
    → Offers s (with_ledger (with_worlds s (with_world s.worlds x W)) x l)
offers_put s x W l h =
    let k = ledger_keeps (with_worlds s (with_world s.worlds x W)) x l in
    record { alike = rw k.0 (put_alike s.worlds x W h); snapshots = rw k.0 (put_snapshots_by s.worlds x W (eqb x 0) refl); steps = k.1 }

offers_side : (s : Scene) (x : ℕ) (e : Entry) → Offers s (offered_side s x e).scene
unfolding offered_side
offers_side s x e =
    offers_put s x (scheduled_of (world_of s.worlds x) e).world (takes (ledger_of s x) (taken_by (scheduled_of (world_of s.worlds x) e).outcome))
    (scheduled_stamp (world_of s.worlds x) e)

-- a command arrives
pub offers : (s : Scene) (e : Entry) → Offers s (received_of s e).scene
unfolding received_of
offers s e =
    offers_then (offers_base s e)
    (offers_then (offers_side (offered_base s e).scene (old_side_of s.worlds) e)
    (offers_side (offered_side (offered_base s e).scene (old_side_of s.worlds) e).scene (new_side_of s.worlds) e))

-- ---- snapshots

-- a snapshot arrives
pub notes_alike : (w : ClientWorldSimulations) (t : Timestamp) (h : ℕ) → Alike w (notes_of w t h)
unfolding notes_of new_side_of old_side_of world_of old_stamp_of new_stamp_of
notes_alike w t h = record { side = refl; old = refl; new = refl; weight = refl }

queued_by : (a b : Bool) (s : Snapshots) (t : Timestamp) (h : ℕ) → t.0 < 65536 → QueuedFits s.queued → QueuedFits (snapshots_by a b s t h).queued
unfolding snapshots_by
queued_by true b s t h l q = q
queued_by false true s t h l q = l
queued_by false false s t h l q = q

pub notes_fit : (w : ClientWorldSimulations) (t : Timestamp) (h : ℕ) → t.0 < 65536 → QueuedFits w.snapshots.queued
    → QueuedFits (notes_of w t h).snapshots.queued
unfolding notes_of snapshots_of
notes_fit w t h l q = queued_by (from_future_of t (old_stamp_of w)) (fresh_of w.snapshots.lastqueued t) w.snapshots t h l q

-- ---- the end of an update

pub post_alike : (w : ClientWorldSimulations) (t : Float) (lag : ℕ) → Alike w (post_update_of w t lag)
unfolding post_update_of new_side_of old_side_of world_of old_stamp_of new_stamp_of
post_alike w t lag = record { side = refl; old = refl; new = refl; weight = refl }

pub post_queued : (w : ClientWorldSimulations) (t : Float) (lag : ℕ) → (post_update_of w t lag).snapshots.queued ≡ w.snapshots.queued
unfolding post_update_of
post_queued w t lag = refl

-- ---- a skip

-- the old stamp is set, the new one is that or stays, and no step word is put
pub record OneSkip (s : Scene) (t : Timestamp) (p : Played) : Type 0 where
  pub old : old_stamp_of p.scene.worlds ≡ t
  pub fitting : t.0 < 65536 → Fitting s.worlds → Fitting p.scene.worlds
  pub steps : p.scene.steps ≡ s.steps
  pub none : (y : ℕ) → steps_on y p.words ≡ 0

-- the new world goes along or not
record Along (s : Scene) (t : Timestamp) (p : Played) : Type 0 where
  pub oldside : old_side_of p.scene.worlds ≡ old_side_of s.worlds
  pub new : t.0 < 65536 → (new_stamp_of s.worlds).0 < 65536 → (new_stamp_of p.scene.worlds).0 < 65536
  pub snapshots : p.scene.worlds.snapshots ≡ s.worlds.snapshots
  pub steps : p.scene.steps ≡ s.steps
  pub none : (y : ℕ) → steps_on y p.words ≡ 0

along_still : (s : Scene) (t : Timestamp) → Along s t (still s)
unfolding steps_on
along_still s t = record { oldside = refl; new = λ l h. h; snapshots = refl; steps = refl; none = λ y. refl }

along_reset : (s : Scene) (t : Timestamp) → Along s t (reset_side s (new_side_of s.worlds) t)
unfolding reset_side
along_reset s t =
    let x : ℕ = new_side_of s.worlds in
    let d : Done = reset_of (world_of s.worlds x) t x in
    let q : (done_at s x d).scene.worlds ≡ with_world s.worlds x d.world = done_worlds s x d in
    let m : Restamped s.worlds (with_world s.worlds x d.world) (old_stamp_of s.worlds) (world_stamp_of d.world) = put_at_new s.worlds d.world in
    record {
      oldside = ap old_side_of q ∙ m.oldside;
      new = λ l h. rw (q, m.new, reset_stamp (world_of s.worlds x) t x) l;
      snapshots = ap (λ (w : ClientWorldSimulations). w.snapshots) q ∙ m.snapshots;
      steps = done_steps_lem s x d;
      none = λ y. ap (steps_on y) (done_words s x d) ∙ reset_marks y (world_of s.worlds x) t x;
    }

along_by : (b : Bool) (s : Scene) (t : Timestamp) → Along s t (cond b (reset_side s (new_side_of s.worlds) t) (still s))
along_by true s t = along_reset s t
along_by false s t = along_still s t

along : (s : Scene) (t : Timestamp) → Along s t (reset_along s t)
unfolding reset_along
along s t = along_by (eqb (new_stamp_of s.worlds).0 (old_stamp_of s.worlds).0) s t

-- the old world is reset
one_skip_old : (u : Scene) (x : ℕ) (t : Timestamp) → x ≡ old_side_of u.worlds → OneSkip u t (reset_side u x t)
unfolding reset_side
one_skip_old u x t e =
    let d : Done = reset_of (world_of u.worlds x) t x in
    let q : (done_at u x d).scene.worlds ≡ with_world u.worlds (old_side_of u.worlds) d.world = done_worlds u x d
    ∙ ap (λ y. with_world u.worlds y d.world) e in
    let m : Restamped u.worlds (with_world u.worlds (old_side_of u.worlds) d.world) (world_stamp_of d.world) (new_stamp_of u.worlds) =
    put_at_old u.worlds d.world in
    let o : old_stamp_of (done_at u x d).scene.worlds ≡ t = ap old_stamp_of q ∙ m.old ∙ reset_stamp (world_of u.worlds x) t x in
    record {
      old = o;
      fitting = λ l f. record { old = rw o l; new = rw (q, m.new) f.new; queued = rw (q, m.snapshots) f.queued };
      steps = done_steps_lem u x d;
      none = λ y. ap (steps_on y) (done_words u x d) ∙ reset_marks y (world_of u.worlds x) t x;
    }

-- both worlds
one_skip_then : (s : Scene) (t : Timestamp) (q : Played) (f : Scene → Played) → Along s t q → OneSkip q.scene t (f q.scene) →
    (t.0 < 65536 → (old_stamp_of s.worlds).0 < 65536 → (old_stamp_of q.scene.worlds).0 < 65536) → OneSkip s t (and_then q f)
one_skip_then s t q f a k o =
    let sc : (and_then q f).scene ≡ (f q.scene).scene = then_scene q f in
    record {
      old = rw sc k.old;
      fitting = λ l h. rw sc (k.fitting l (record { old = o l h.old; new = a.new l h.new; queued = rw a.snapshots h.queued }));
      steps = rw sc (k.steps ∙ a.steps);
      none = λ y. then_marks y q f ∙ omega (arith, a.none y, k.none y);
    }

along_old_by : (b : Bool) (s : Scene) (t : Timestamp) → old_stamp_of
    (cond b (reset_side s (new_side_of s.worlds) t) (still s)).scene.worlds ≡ old_stamp_of s.worlds
unfolding reset_side
along_old_by true s t =
    let x : ℕ = new_side_of s.worlds in
    let d : Done = reset_of (world_of s.worlds x) t x in
    ap old_stamp_of (done_worlds s x d) ∙ (put_at_new s.worlds d.world).old
along_old_by false s t = refl

along_old : (s : Scene) (t : Timestamp) → old_stamp_of (reset_along s t).scene.worlds ≡ old_stamp_of s.worlds
unfolding reset_along
along_old s t = along_old_by (eqb (new_stamp_of s.worlds).0 (old_stamp_of s.worlds).0) s t

one_skip_both : (s : Scene) (t : Timestamp) → OneSkip s t (reset_both s t)
unfolding reset_both
one_skip_both s t =
    one_skip_then s t (reset_along s t) (λ u. reset_side u (old_side_of s.worlds) t) (along s t)
    (one_skip_old (reset_along s t).scene (old_side_of s.worlds) t (sym (along s t).oldside))
    (λ l h. rw (along_old s t) h)

-- the base does not matter
one_skip_based : (b : Bool) (s : Scene) (t : Timestamp) (p : Played) → OneSkip s t p
    → OneSkip s t (record { scene = emptied_base b p.scene; words = p.words })
unfolding new_side_of old_side_of world_of old_stamp_of new_stamp_of
one_skip_based true s t p k =
    record {
      old = k.old;
      fitting = λ l f. let g : Fitting p.scene.worlds = k.fitting l f in record { old = g.old; new = g.new; queued = g.queued };
      steps = k.steps;
      none = k.none;
    }
one_skip_based false s t p k = k

pub one_skip : (s : Scene) (t : Timestamp) → OneSkip s t (skipped_of s t)
unfolding skipped_of
one_skip s t = one_skip_based (skips_back t (old_stamp_of s.worlds)) s t (reset_both s t) (one_skip_both s t)
