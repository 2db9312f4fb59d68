-- A frame by its elementary moves: who shows a thing of each move of a scene, of none and of one after another, has it of a whole frame. Assumes nothing.
use Rattle.std.proofs.Common.{◌≡◌, ℕ, zero, suc, ◌+◌, ◌*◌, ◌<◌, ◌≤◌, Bool, true, false, cond, List, refl, ap, ◌∙◌, subst, append-nil, arith}
use Rattle.std.specs.Prelude.{Option, Some, None}
use lib.Ieee.{Float}
use Rattle.timestamp.specs.declared.Timestamp.{Timestamp}
use Rattle.simulation.specs.World.{reset_of}
use Rattle.client.specs.declared.FastforwardingHealth.TheVariants.{Healthy, Obsolete, Overshot}
use Rattle.client.specs.declared.QueuedSnapshot.{QueuedSnapshot}
use Rattle.client.specs.declared.ReconciliationStatus.{ReconciliationStatus}
use Rattle.client.specs.declared.ReconciliationStatus.TheVariants.{AwaitingSnapshot, Fastforwarding, Blending}
use Rattle.client.specs.declared.ClientWorldSimulations.{ClientWorldSimulations}
use Rattle.client.specs.declared.Scene.{Scene}
use Rattle.tape.specs.Sides.{is_left}
use Rattle.client.specs.Sides.{new_side_of, old_side_of, world_of, with_weight, with_worlds, old_stamp_of, new_stamp_of, Played, still, and_then, done_at}
use Rattle.client.specs.Status.{status_of}
use Rattle.client_publish.proofs.Telling.{Telling, publishes, old_by, blended_by_lem}
use Rattle.client_frame.specs.declared.Rules.{Rules}
use Rattle.client_load.specs.Load.{loaded_of}
use Rattle.client_frame.specs.Frame.{loaded_queued, blended_on, reset_new, opened_of, stepped_side, caught_up_of, with_step, stepped_new, unless}
use Rattle.client_frame.specs.Frame.{caught_of, simulated_of, blended_by, published_by, shown_of, snapshot_of, frame_opened, frame_of}

-- ---- one thing and then another

-- what is to be shown of a scene and of what is played from it, at a cost of so much
abbrev pub Law : Type 1
Law = ℕ → Scene → Played → Type 0

-- a law holds at a larger cost, of nothing that happens, and of one thing and then another
pub record Chains (P : Law) : Type 0 where
  pub more : (n k : ℕ) (s : Scene) (p : Played) → n ≤ k → P n s p → P k s p
  pub stays : (s : Scene) → P 0 s (still s)
  pub next : (n k : ℕ) (s : Scene) (p : Played) (f : Scene → Played) → P n s p → P k p.scene (f p.scene) → P (n + k) s (and_then p f)

-- a law that does without costs and words: a thing of worlds stays true
abbrev pub Keeps : (ClientWorldSimulations → Type 0) → Law
Keeps K n s p = K s.worlds → K p.scene.worlds

pub keeps_chains : (K : ClientWorldSimulations → Type 0) → Chains (Keeps K)
unfolding and_then
keeps_chains K = record { more = λ n k s p e h. h; stays = λ s x. x; next = λ n k s p f h g x. g (h x) }

-- and one of something of worlds that does not change
abbrev pub Same : {A : Type 0} → (ClientWorldSimulations → A) → Law
Same f n s p = f p.scene.worlds ≡ f s.worlds

pub same_chains : {A : Type 0} (f : ClientWorldSimulations → A) → Chains (Same f)
unfolding and_then
same_chains f = record { more = λ n k s p e h. h; stays = λ s. refl; next = λ n k s p g h e. e ∙ h }

-- after what was played the scene changes with no word
abbrev pub quietly : (Scene → Scene) → Played → Played
quietly f p = record { scene = f p.scene; words = p.words }

module _ {P : Law} (c : Chains P) where
  then_quiet : (p : Played) (f : Scene → Scene) → and_then p (λ (s : Scene). still (f s)) ≡ quietly f p
  unfolding and_then
  then_quiet p f = ap (λ (ws : List ℕ). record { scene = f p.scene; words = ws }) (append-nil p.words)

  pub quiet_by : (n : ℕ) (s : Scene) (p : Played) (f : Scene → Scene) → P n s p → P 0 p.scene (still (f p.scene)) → P n s (quietly f p)
  quiet_by n s p f h g =
      subst (P n s) (then_quiet p f) (c.more (n + 0) n s (and_then p (λ (t : Scene). still (f t))) (omega arith)
      (c.next n 0 s p (λ (t : Scene). still (f t)) h g))

  -- nothing, at any cost
  pub still_by : (n : ℕ) (s : Scene) → P n s (still s)
  still_by n s = c.more 0 n s (still s) (omega arith) (c.stays s)

-- one of two
pub either_by : (P : Played → Type 0) (b : Bool) (p q : Played) → P p → P q → P (cond b p q)
either_by P true p q x y = x
either_by P false p q x y = y

-- both sides are 0 or 1
pub new_below : (w : ClientWorldSimulations) → new_side_of w < 2
unfolding new_side_of
new_below w = go (is_left w.new)
  where
    go : (b : Bool) → cond b 0 1 < 2
    go true = omega arith
    go false = omega arith

pub old_below : (w : ClientWorldSimulations) → old_side_of w < 2
unfolding old_side_of
old_below w = go (is_left w.new)
  where
    go : (b : Bool) → cond b 1 0 < 2
    go true = omega arith
    go false = omega arith

-- ---- a frame by its parts

-- what a frame publishes, by the weight or not
pub published_by_lem : (P : Played → Type 0) (s : Scene) → ((l : Option Timestamp) (w : Telling) → P (publishes s l w)) → (b : Bool) → P (published_by b s)
published_by_lem P s h true = blended_by_lem P s h
published_by_lem P s h false = old_by P s h

-- a law of each way to open a frame, of the worlds' steps and of what is published; a weight moves on in Blending alone
pub record Parts (P : Law) (rules : Rules) (load steps show : ℕ) : Type 0 where
  pub chains : Chains P
  pub loads : (s : Scene) (side : ℕ) (t : Timestamp) (h : ℕ) → side < 2 → P load s (loaded_of s side t h)
  pub resets : (s : Scene) → P load s (reset_new s)
  pub blends : (s : Scene) (t : Float) → status_of s.worlds ≡ Blending t → P load s (still (blended_on s rules.progress))
  pub simulates : (s : Scene) → P steps s (simulated_of rules.m s)
  pub shows : (s : Scene) (l : Option Timestamp) (w : Telling) → P show s (publishes s l w)

module _ {P : Law} {rules : Rules} {load steps show : ℕ} (h : Parts P rules load steps show) where
  queued_by : (s : Scene) (q : Option QueuedSnapshot) (side : ℕ) → side < 2 → P load s (loaded_queued s q side)
  unfolding loaded_queued
  queued_by s None side l = still_by h.chains load s
  queued_by s (Some q) side l = h.loads s side q.stamp q.handle l

  -- what a frame begins with
  pub opened_by_lem : (r : ReconciliationStatus) (q : Option QueuedSnapshot) (s : Scene) → status_of s.worlds ≡ r → P load s (opened_of r q rules.progress s)
  unfolding opened_of
  opened_by_lem AwaitingSnapshot q s e = queued_by s q (old_side_of s.worlds) (old_below s.worlds)
  opened_by_lem (Blending t) q s e = h.blends s t e
  opened_by_lem (Fastforwarding Healthy) q s e = still_by h.chains load s
  opened_by_lem (Fastforwarding Obsolete) q s e = queued_by s q (new_side_of s.worlds) (new_below s.worlds)
  opened_by_lem (Fastforwarding Overshot) q s e = h.resets s

  -- the worlds' steps and what is published
  pub shown_by_lem : (b : Bool) (s : Scene) → P (steps + show) s (shown_of rules.m b s)
  unfolding shown_of
  shown_by_lem b s =
      let t : Scene = (simulated_of rules.m s).scene in
      h.chains.next steps show s (simulated_of rules.m s) (published_by b) (h.simulates s) (published_by_lem (P show t) t (h.shows t) b)

  -- a frame
  pub frame_by : (s : Scene) → P (load + (steps + show)) s (frame_of rules s)
  unfolding frame_of frame_opened
  frame_by s =
      let r : ReconciliationStatus = status_of s.worlds in
      let q : Option QueuedSnapshot = snapshot_of s in
      h.chains.next load (steps + show) s (opened_of r q rules.progress s) (shown_of rules.m (blended_by r q)) (opened_by_lem r q s refl)
      (shown_by_lem (blended_by r q) (opened_of r q rules.progress s).scene)

-- ---- a frame by its moves

-- the world of a side is reset to a stamp
abbrev pub reset_at : Scene → ℕ → Timestamp → Played
reset_at s side t = done_at s side (reset_of (world_of s.worlds side) t side)

-- a law of the steps of worlds: a side's step, and a step that is counted
pub record Steps (P : Law) (step : ℕ) : Type 0 where
  pub chains : Chains P
  pub steps : (s : Scene) (side : ℕ) → side < 2 → P step s (stepped_side s side)
  pub counts : (s : Scene) → P 0 s (still (with_step s))

unless_by : (P : Played → Type 0) (b : Bool) (s : Scene) (p : Played) → P (still s) → P p → P (unless b s p)
unless_by P true s p x y = x
unless_by P false s p x y = y

module _ {P : Law} {step : ℕ} (h : Steps P step) where
  -- a step of the new world, counted
  pub stepped_new_by : (s : Scene) → P step s (stepped_new s)
  unfolding stepped_new
  stepped_new_by s =
      let p : Played = stepped_side s (new_side_of s.worlds) in
      quiet_by h.chains step s p with_step (h.steps s (new_side_of s.worlds) (new_below s.worlds)) (h.counts p.scene)

  -- so many of them at most
  pub caught_by : (n : ℕ) (o : Timestamp) (s : Scene) → P (n * step) s (caught_of n o s)
  unfolding caught_of
  caught_by zero o s = still_by h.chains (zero * step) s
  caught_by (suc n) o s =
      let p : Played = and_then (stepped_new s) (caught_of n o) in
      let a : P (step + n * step) s p = h.chains.next step (n * step) s (stepped_new s) (caught_of n o) (stepped_new_by s)
      (caught_by n o (stepped_new s).scene) in
      unless_by (P (suc n * step) s) (caught_up_of (new_stamp_of s.worlds) o) s p (still_by h.chains (suc n * step) s)
      (h.chains.more (step + n * step) (suc n * step) s p (omega arith) a)

  -- the worlds' steps of a frame
  pub simulated_by : (m : ℕ) (s : Scene) → P (step + m * step) s (simulated_of m s)
  unfolding simulated_of
  simulated_by m s =
      let p : Played = stepped_side s (old_side_of s.worlds) in
      h.chains.next step (m * step) s p (λ (t : Scene). caught_of m (old_stamp_of t.worlds) t)
      (h.steps s (old_side_of s.worlds) (old_below s.worlds)) (caught_by m (old_stamp_of p.scene.worlds) p.scene)

-- a law of each elementary move of a frame
pub record Moves (P : Law) (load reset step show : ℕ) : Type 0 where
  pub stepping : Steps P step
  pub fits : reset ≤ load
  pub loads : (s : Scene) (side : ℕ) (t : Timestamp) (h : ℕ) → side < 2 → P load s (loaded_of s side t h)
  pub resets : (s : Scene) (side : ℕ) (t : Timestamp) → side < 2 → P reset s (reset_at s side t)
  pub weighs : (s : Scene) (t : Float) → P 0 s (still (with_worlds s (with_weight s.worlds t)))
  pub shows : (s : Scene) (l : Option Timestamp) (w : Telling) → P show s (publishes s l w)

module _ {P : Law} {load reset step show : ℕ} (h : Moves P load reset step show) where
  reset_new_by : (s : Scene) → P load s (reset_new s)
  unfolding reset_new
  reset_new_by s =
      let side : ℕ = new_side_of s.worlds in
      h.stepping.chains.more reset load s (reset_at s side (old_stamp_of s.worlds)) h.fits
      (h.resets s side (old_stamp_of s.worlds) (new_below s.worlds))

  weighed_by : (s : Scene) (progress : Float) → P load s (still (blended_on s progress))
  unfolding blended_on
  weighed_by s progress = h.stepping.chains.more 0 load s (still (blended_on s progress)) (omega arith) (h.weighs s _)

  -- the parts of a frame
  pub parts_by : (rules : Rules) → Parts P rules load (step + rules.m * step) show
  parts_by rules =
      record {
        chains = h.stepping.chains;
        loads = h.loads;
        resets = reset_new_by;
        blends = λ s t e. weighed_by s rules.progress;
        simulates = simulated_by h.stepping rules.m;
        shows = h.shows;
      }
