-- The stamps of the two worlds of a client: what it means for them that the world of one side is another. Assumes nothing.
use Rattle.std.specs.Ordering.{is_gt, is_ge}
use mathlib.Core.Path.{◌≡◌, refl}
use mathlib.Core.Bool.{Bool, true, false, cond}
use mathlib.Core.List.{[], ◌∷◌}
use Prim.Native.Nat.{ℕ, zero, suc, ◌+◌, ◌-◌, ◌%◌, ◌<◌, ◌≤◌}
use native.Mathlib.Omega.{arith}
use borrow.Author.Tests.{ltb-true}
use lib.Dec.{eqb, ltb}
use lib.IntN.{pos, negsuc}
use Rattle.timestamp.specs.declared.Timestamp.{Timestamp}
use Rattle.timestamp.specs.Timestamps.{sum_of, difference_of, signed_of, sign_of, order_of}
use Rattle.tape.specs.Sides.{is_left}
use Rattle.tape.specs.Words.{step_word, count_if, steps_on}
use Rattle.tape.proofs.Counting.{steps_on-append, steps_on_step}
use Rattle.command.specs.Buffer.{held, moved_of, taken_of, command_words}
use Rattle.command.proofs.Applying.{words_no_step_on}
use Rattle.simulation.specs.declared.Simulation.{Simulation}
use Rattle.simulation.specs.World.{Done, next_stamp, step_of, reset_of, resets_back, flushed_of, kept_of}
use Rattle.client.specs.declared.ClientWorldSimulations.{ClientWorldSimulations}
use Rattle.client.specs.declared.Ledger.{Ledger}
use Rattle.client.specs.declared.Scene.{Scene}
use Rattle.client.specs.Sides.{new_side_of, old_side_of, world_of, with_world, world_stamp_of, old_stamp_of, new_stamp_of, with_ledger, with_worlds, put_of}
use Rattle.client.specs.Sides.{done_at}
use Rattle.client.specs.Status.{later_of}
use Rattle.client_frame.specs.Frame.{caught_up_of}

-- ---- how far one stamp is behind another

-- (a - b) modulo 65,536
unfoldable pub lag_of : ℕ → ℕ → ℕ
lag_of a b = difference_of a b

-- the name for it in the statement
pub lag_is : (a b : ℕ) → lag_of a b ≡ difference_of a b
unfolding lag_of
lag_is a b = refl

-- the stamp after another, as a number
unfoldable pub next_of : ℕ → ℕ
next_of n = sum_of n 1

pub next_is : (t : Timestamp) → (next_stamp t).0 ≡ next_of t.0
unfolding next_of
next_is t = refl

pub next-sum : (n : ℕ) → next_of n ≡ (n + 1) % 65536
unfolding next_of
next-sum n = refl

pub next_below : (n : ℕ) → next_of n < 65536
unfolding next_of
next_below n = omega arith

-- two stamps, each at or after the other by less than half a cycle, are equal
pub lag_none : (o n : ℕ) → o < 65536 → n < 65536 → lag_of o n ≤ 32768 → lag_of n o < 32768 → lag_of o n ≡ 0
unfolding lag_of
lag_none o n ho hn h l = omega arith

-- a step of the one behind
pub lag_step : (o n : ℕ) → o < 65536 → n < 65536 → 32768 ≤ lag_of n o → lag_of o n ≡ lag_of o (next_of n) + 1
unfolding lag_of next_of
lag_step o n ho hn l = omega arith

-- a step of the one ahead
pub lag_next : (o n : ℕ) → o < 65536 → n < 65536 → lag_of o n ≤ 32767 → lag_of (next_of o) n ≡ lag_of o n + 1
unfolding lag_of next_of
lag_next o n a b c = omega arith

-- a stamp that is later than another is more than half a cycle behind it
pub lag_far : (o n : ℕ) → o < 65536 → n < 65536 → (lag_of n o ≡ 0 → ⊥) → lag_of n o < 32768 → 32767 < lag_of o n
unfolding lag_of
lag_far o n ho hn z l = omega arith

-- what is added to the stamp o gives the stamp t
pub lag_there : (o t : ℕ) → o < 65536 → t < 65536 → t ≡ (o + lag_of t o) % 65536
unfolding lag_of
lag_there o t h k = omega arith

-- ---- the tests on stamps

reached_by : (b : Bool) (d : ℕ) → is_ge (sign_of (cond b (pos d) (negsuc (65535 - d)))) ≡ b
reached_by true zero = refl
reached_by true (suc d) = refl
reached_by false d = refl

-- the catch-up test: n is at or after o by less than half a cycle
pub reached_is : (n o : Timestamp) → caught_up_of n o ≡ ltb (lag_of n.0 o.0) 32768
unfolding caught_up_of order_of signed_of lag_of
reached_is n o = reached_by (ltb (difference_of n.0 o.0) 32768) (difference_of n.0 o.0)

later_by : (b : Bool) (d : ℕ) → is_gt (sign_of (cond b (pos d) (negsuc (65535 - d)))) ≡ true → (b ≡ true) × (d ≡ 0 → ⊥)
later_by true zero e = absurd (let z : ◌≡◌ {A = ℕ} 0 1 = cc in omega arith)
later_by true (suc d) e = (refl, λ z. omega arith)
later_by false d e = absurd (let z : ◌≡◌ {A = ℕ} 0 1 = cc in omega arith)

-- n is later than o
pub later_tells : (n o : Timestamp) → later_of n o ≡ true → (lag_of n.0 o.0 < 32768) × (lag_of n.0 o.0 ≡ 0 → ⊥)
unfolding later_of order_of signed_of lag_of
later_tells n o e =
    let p = later_by (ltb (difference_of n.0 o.0) 32768) (difference_of n.0 o.0) e in
    (ltb-true (difference_of n.0 o.0) 32768 p.0, p.1)

-- ---- the sides

pub sides_apart : (w : ClientWorldSimulations) → old_side_of w + new_side_of w ≡ 1
unfolding new_side_of old_side_of
sides_apart w = go (is_left w.new)
  where
    go : (b : Bool) → cond b 1 0 + cond b 0 1 ≡ 1
    go true = refl
    go false = refl

-- worlds with another stamp at a side: which one is new, and what snapshots wait, stay
pub record Restamped (v w : ClientWorldSimulations) (o n : Timestamp) : Type 0 where
  pub side : new_side_of w ≡ new_side_of v
  pub oldside : old_side_of w ≡ old_side_of v
  pub old : old_stamp_of w ≡ o
  pub new : new_stamp_of w ≡ n
  pub snapshots : w.snapshots ≡ v.snapshots
  pub weight : w.weight ≡ v.weight

module _ (v : ClientWorldSimulations) (W : Simulation) where
  old_by : (b : Bool) → is_left v.new ≡ b → Restamped v (with_world v (old_side_of v) W) (world_stamp_of W) (new_stamp_of v)
  unfolding new_side_of old_side_of world_of with_world old_stamp_of new_stamp_of
  old_by true e = record { side = simp e; oldside = simp e; old = simp e; new = simp e; snapshots = simp e; weight = simp e }
  old_by false e = record { side = simp e; oldside = simp e; old = simp e; new = simp e; snapshots = simp e; weight = simp e }

  new_by : (b : Bool) → is_left v.new ≡ b → Restamped v (with_world v (new_side_of v) W) (old_stamp_of v) (world_stamp_of W)
  unfolding new_side_of old_side_of world_of with_world old_stamp_of new_stamp_of
  new_by true e = record { side = simp e; oldside = simp e; old = simp e; new = simp e; snapshots = simp e; weight = simp e }
  new_by false e = record { side = simp e; oldside = simp e; old = simp e; new = simp e; snapshots = simp e; weight = simp e }

  -- another world at the old side
  pub put_at_old : Restamped v (with_world v (old_side_of v) W) (world_stamp_of W) (new_stamp_of v)
  put_at_old = old_by (is_left v.new) refl

  -- another world at the new side
  pub put_at_new : Restamped v (with_world v (new_side_of v) W) (old_stamp_of v) (world_stamp_of W)
  put_at_new = new_by (is_left v.new) refl

-- ---- scenes

ledger_by : (b : Bool) (s : Scene) (x : ℕ) (l : Ledger) → eqb x 0 ≡ b → ((with_ledger s x l).worlds ≡ s.worlds) × ((with_ledger s x l).steps ≡ s.steps)
unfolding with_ledger
ledger_by true s x l e = (simp e, simp e)
ledger_by false s x l e = (simp e, simp e)

-- another ledger changes neither the worlds nor the count of steps
pub ledger_keeps : (s : Scene) (x : ℕ) (l : Ledger) → ((with_ledger s x l).worlds ≡ s.worlds) × ((with_ledger s x l).steps ≡ s.steps)
ledger_keeps s x l = ledger_by (eqb x 0) s x l refl

-- what is done to the world of a side leaves the steps
pub done_steps_lem : (s : Scene) (x : ℕ) (d : Done) → (done_at s x d).scene.steps ≡ s.steps
unfolding done_at put_of
done_steps_lem s x d = (ledger_keeps (with_worlds s (with_world s.worlds x d.world)) x _).1

pub done_words : (s : Scene) (x : ℕ) (d : Done) → (done_at s x d).words ≡ d.words
unfolding done_at
done_words s x d = refl

-- ---- one world

-- a step has one step word, of its side
pub step_marks : (y : ℕ) (w : Simulation) (x : ℕ) → steps_on y (step_of w x).words ≡ count_if (eqb (x % 2) y)
unfolding step_of steps_on
step_marks y w x =
    let t = taken_of w.commands (next_stamp w.commands.timestamp) in
    omega (arith, steps_on-append y (command_words x t) (step_word x ∷ []), words_no_step_on x y t, steps_on_step y [] x)

-- a reset has no step word
pub reset_marks : (y : ℕ) (w : Simulation) (t : Timestamp) (x : ℕ) → steps_on y (reset_of w t x).words ≡ 0
unfolding reset_of steps_on
reset_marks y w t x = go (resets_back t w.commands.timestamp)
  where
    go : (b : Bool) → steps_on y (cond b (flushed_of w t x) (kept_of w t)).words ≡ 0
    go true = words_no_step_on x y (held (moved_of w.commands t).buffer)
    go false = refl
