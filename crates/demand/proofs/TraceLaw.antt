-- Traces whose events follow from each other, and the catch-up law of such traces. Assumes nothing.
use mathlib.Core.List.{List, [], ◌∷◌, ◌++◌}
use mathlib.Core.Path.{◌≡◌, refl, ap, sym, subst, ◌∙◌}
use Prim.Native.Nat.{ℕ, ◌+◌, ◌-◌, ◌*◌, ◌≤◌}
use native.Mathlib.Omega.{arith}
use lib.Dec.{eqb}
use lib.ListN.{length}
use mathlib.Core.Bool.{cond}
use Rattle.timestamp.specs.declared.Timestamp.{Timestamp}
use Rattle.tape.specs.Words.{steps_on}
use Rattle.client.specs.declared.QueuedSnapshot.{QueuedSnapshot}
use Rattle.std.specs.Prelude.{Option, Some, None}
use Rattle.client.specs.declared.Scene.{Scene}
use Rattle.client.specs.Sides.{old_stamp_of, new_stamp_of}
use Rattle.client_frame.specs.declared.Rules.{Rules}
use Rattle.client_frame.specs.Frame.{frame_of, snapshot_of}
use Rattle.client_skip.specs.Skip.{skipped_of}
use Rattle.session_laws.proofs.TraceStamps.{lag_is}
use Rattle.session_laws.proofs.TraceSteps.{lag_in}
use Rattle.session_laws.proofs.TraceFrames.{gap_by}
use Rattle.demand.specs.Events.{Event, FrameFrom, SkipFrom}
use Rattle.demand.specs.Demand.{new_in, frames_in, new_steps, Loading, NoLoad, Loaded, load_by, Frame, frames_from, NoLoads, behind_last, CatchUp}
use Rattle.demand.proofs.TraceCounts.{frame_new}

-- how far behind the new world is after a frame
abbrev pub lag_after : Rules → Scene → ℕ
lag_after r s = lag_in (frame_of r s).scene.worlds

-- after a skip
abbrev pub lag_skipped : Scene → Timestamp → ℕ
lag_skipped s t = lag_in (skipped_of s t).scene.worlds

-- from where the catching up of a frame starts that begins b behind
abbrev pub starts_from : Scene → ℕ → ℕ
starts_from s b = gap_by (snapshot_of s) (old_stamp_of s.worlds).0 b

-- a frame that begins b behind: from g where it loads and from b where not, it ends m - 1 nearer, with at most m steps of the side then new
pub record Obeys (m b : ℕ) (r : Rules) (s : Scene) : Type 0 where
  pub law : starts_from s b ≤ 32767 → lag_after r s ≡ starts_from s b - (m - 1)
  pub few : steps_on (new_in r s) (frame_of r s).words ≤ m

-- each frame begins as far behind as what happened before it left
abbrev pub Linked : ℕ → ℕ → List Event → Type 0
Linked m b [] = Unit {0}
Linked m b (FrameFrom r s ∷ es) = Obeys m b r s × Linked m (lag_after r s) es
Linked m b (SkipFrom s t ∷ es) = Linked m (lag_skipped s t) es

-- how far behind the new world is after a trace, where it was b behind before it
abbrev pub last_in : ℕ → List Event → ℕ
last_in b [] = b
last_in b (FrameFrom r s ∷ es) = last_in (lag_after r s) es
last_in b (SkipFrom s t ∷ es) = last_in (lag_skipped s t) es

pub linked_append : (m b : ℕ) (t u : List Event) → Linked m b t → Linked m (last_in b t) u → Linked m b (t ++ u)
linked_append m b [] u h k = k
linked_append m b (FrameFrom r s ∷ t) u h k = (h.0, linked_append m (lag_after r s) t u h.1 k)
linked_append m b (SkipFrom s x ∷ t) u h k = linked_append m (lag_skipped s x) t u h k

linked_drop : (m b : ℕ) (t u : List Event) → Linked m b (t ++ u) → Linked m (last_in b t) u
linked_drop m b [] u h = h
linked_drop m b (FrameFrom r s ∷ t) u h = linked_drop m (lag_after r s) t u h.1
linked_drop m b (SkipFrom s x ∷ t) u h = linked_drop m (lag_skipped s x) t u h

pub last_append : (b : ℕ) (t u : List Event) → last_in b (t ++ u) ≡ last_in (last_in b t) u
last_append b [] u = refl
last_append b (FrameFrom r s ∷ t) u = last_append (lag_after r s) t u
last_append b (SkipFrom s x ∷ t) u = last_append (lag_skipped s x) t u

-- ---- at most m steps a frame

pub trace_most : (m b : ℕ) (es : List Event) → Linked m b es → new_steps 0 es + new_steps 1 es ≤ m * frames_in es
trace_most m b [] l = omega arith
trace_most m b (FrameFrom r s ∷ es) l =
    sum_of m (cond (eqb (new_in r s) 0) (steps_on 0 (frame_of r s).words) 0) (cond (eqb (new_in r s) 1) (steps_on 1 (frame_of r s).words) 0) (new_steps 0 es)
    (new_steps 1 es) (steps_on (new_in r s) (frame_of r s).words) (frames_in es)
    (frame_new r s) l.0.few (trace_most m (lag_after r s) es l.1)
  where
    sum_of : (m a b p q k f : ℕ) → a + b ≡ k → k ≤ m → p + q ≤ m * f → (a + p) + (b + q) ≤ m * (1 + f)
    sum_of m a b p q k f e h i = omega arith
trace_most m b (SkipFrom s t ∷ es) l = trace_most m (lag_skipped s t) es l

-- ---- where the catching up starts

gap_none : (q : Option QueuedSnapshot) (o : Timestamp) (b : ℕ) → load_by q o ≡ NoLoad → gap_by q o.0 b ≡ b
gap_none None o b e = refl
gap_none (Some q) o b e = absurd (let z : ◌≡◌ {A = ℕ} 0 1 = cc in omega arith)

gap_loaded : (q : Option QueuedSnapshot) (o : Timestamp) (b g : ℕ) → load_by q o ≡ Loaded g → gap_by q o.0 b ≡ g
gap_loaded None o b g e = absurd (let z : ◌≡◌ {A = ℕ} 0 1 = cc in omega arith)
gap_loaded (Some q) o b g e = lag_is o.0 q.stamp.0 ∙ ap gap_in e
  where
    gap_in : Loading → ℕ
    gap_in NoLoad = 0
    gap_in (Loaded n) = n

-- ---- the law

lag_of_frame : Frame → ℕ
lag_of_frame f = lag_after f.rules f.before

lag_last : Frame → List Frame → ℕ
lag_last f [] = lag_of_frame f
lag_last f (g ∷ fs) = lag_last g fs

behind_last_lem : (f : Frame) (fs : List Frame) → behind_last f fs ≡ lag_last f fs
unfolding lag_last lag_of_frame
behind_last_lem f [] = sym (lag_is (old_stamp_of (frame_of f.rules f.before).scene.worlds).0 (new_stamp_of (frame_of f.rules f.before).scene.worlds).0)
behind_last_lem f (g ∷ fs) = behind_last_lem g fs

frames_law : (m d b : ℕ) (f : Frame) (fs : List Frame) (after : List Event) → d ≡ m - 1 → lag_of_frame f ≡ b → b ≤ 32767 →
    Linked m b (frames_from fs ++ after) → NoLoads fs → lag_last f fs ≡ b - length fs * d
unfolding lag_last lag_of_frame
frames_law m d b f [] after ed e h l n = omega arith
frames_law m d b f (x ∷ fs) after ed e h l n =
    let s : Scene = x.before in
    let g : starts_from s b ≡ b = gap_none (snapshot_of s) (old_stamp_of s.worlds) b n.0 in
    let o : lag_after x.rules s ≡ starts_from s b - (m - 1) = l.0.law (omega arith) in
    let i : lag_last x fs ≡ lag_after x.rules s - length fs * d = frames_law m d (lag_after x.rules s) x fs after ed refl (omega arith) l.1 n.1 in
    omega arith

pub catch_up_lem : (m b : ℕ) (trace : List Event) → Linked m b trace → CatchUp m trace
unfolding CatchUp lag_of_frame
catch_up_lem m b trace h before load frames after g e el hg n =
    let s : Scene = load.before in
    let r : Linked m (last_in b before) (FrameFrom load.rules s ∷ (frames_from frames ++ after)) =
    linked_drop m b before (FrameFrom load.rules s ∷ (frames_from frames ++ after)) (subst (λ (t : List Event). Linked m b t) e h) in
    let q : starts_from s (last_in b before) ≡ g = gap_loaded (snapshot_of s) (old_stamp_of s.worlds) (last_in b before) g el in
    let lb : lag_after load.rules s ≡ starts_from s (last_in b before) - (m - 1) = r.0.law (omega arith) in
    let i : lag_last load frames ≡ lag_after load.rules s - length frames * (m - 1) =
    frames_law m (m - 1) (lag_after load.rules s) load frames after refl refl (omega arith) r.1 n in
    let last : behind_last load frames ≡ lag_last load frames = behind_last_lem load frames in
    let d : ℕ = m - 1 in
    omega arith
