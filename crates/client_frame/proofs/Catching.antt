-- The loop of `catch_up`: what is left of it gives what the whole gives. Assumes nothing.
use Rattle.std.proofs.Common.{◌≡◌, ℕ, zero, suc, ◌+◌, ◌-◌, ◌*◌, ◌≤◌, ◌<◌, Bool, true, false, eqb, sym, refl, ap, ◌∙◌, subst, arith}
use Rattle.timestamp.specs.declared.Timestamp.{Timestamp}
use Rattle.tape.specs.declared.Tape.{Tape}
use Rattle.command.specs.Ranks.{quiet_steps_of}
use Rattle.simulation.specs.declared.Simulation.{Simulation}
use Rattle.client.specs.declared.Scene.{Scene}
use Rattle.client.specs.Sides.{new_side_of, world_of, with_world, with_ledger, put_of, done_at, new_stamp_of, still, and_then, Plays}
use Rattle.client_frame.specs.Frame.{caught_up_of, stepped_side, stepped_new, caught_of}
use Rattle.client.proofs.Happening.{plays_still, plays_as, plays_then}

-- for how many of its next steps the new world's buffer stays as it is
abbrev new_quiet : Scene → ℕ
new_quiet s = quiet_steps_of (world_of s.worlds (new_side_of s.worlds)).commands

-- after k steps: whatever the rest gives from here, the whole gives from where the loop began; q of the new world's next steps are known to be quiet
pub record Catching (m : ℕ) (o : Timestamp) (from : Scene) (was tape : Tape) (s : Scene) (q k : ℕ) : Type 0 where
  pub bound : k ≤ m
  pub known : q ≤ new_quiet s
  pub at : tape.at ≤ was.at + k * 65
  pub rest : (u : Scene) (now : Tape) → Plays (caught_of (m - k) o s) tape u now → Plays (caught_of m o from) was u now

-- before the first step
pub catching_start : (m : ℕ) (o : Timestamp) (from : Scene) (was : Tape) {q : ℕ} → q ≤ new_quiet from → Catching m o from was was from q 0
catching_start m o from was known =
    let e : m - 0 ≡ m = omega arith in
    record { bound = omega arith; known = known; at = omega arith; rest = λ u now h. plays_as (ap (λ (n : ℕ). caught_of n o from) e) h }

-- where the new world has not caught up, a step and the rest are one more turn
pub turn : (n : ℕ) (o : Timestamp) (s : Scene) → caught_up_of (new_stamp_of s.worlds) o ≡ false → and_then (stepped_new s) (caught_of n o) ≡ caught_of (suc
    n) o s
unfolding caught_of
turn n o s e = rw e refl

-- where it has, nothing is left
pub stop : (n : ℕ) (o : Timestamp) (s : Scene) → caught_up_of (new_stamp_of s.worlds) o ≡ true → still s ≡ caught_of n o s
unfolding caught_of
stop zero o s e = refl
stop (suc n) o s e = rw e refl

-- nor where no steps are left
none : (o : Timestamp) (s : Scene) → still s ≡ caught_of 0 o s
unfolding caught_of
none o s = refl

-- a step of the new world leaves its side the new one
put_kept : (s : Scene) (side : ℕ) (w : Simulation) (n k : ℕ) (b : Bool) → eqb side 0 ≡ b → new_side_of (put_of s side w n k).worlds ≡ new_side_of s.worlds
unfolding new_side_of put_of with_ledger with_world
put_kept s side w n k true e = rw e refl
put_kept s side w n k false e = rw e refl

side_kept : (s : Scene) → new_side_of (stepped_new s).scene.worlds ≡ new_side_of s.worlds
unfolding stepped_new stepped_side done_at
side_kept s = put_kept s (new_side_of s.worlds) _ _ _ _ refl

module _ {m : ℕ} {o : Timestamp} {from : Scene} {was tape : Tape} {s : Scene} {q k : ℕ}
    (c : Catching m o from was tape s q k) where
  -- a step
  pub catching_step : {n : Timestamp} {b : Bool} {side : ℕ} {t : Scene} {mid : Tape} {r : ℕ} → k < m → n ≡ new_stamp_of s.worlds → b ≡ caught_up_of n o
      → b ≡ false → side ≡ new_side_of s.worlds → Plays (stepped_new s) tape t mid → mid.at ≤ tape.at + 65
      → r ≤ quiet_steps_of (world_of t.worlds side).commands → Catching m o from was mid t r (k + 1)
  catching_step {side = side} {t = t} {r = r} l hn hb f hs h few known =
      let kept : side ≡ new_side_of t.worlds = hs ∙ sym (side_kept s) ∙ ap (λ (x : Scene). new_side_of x.worlds) (sym h.scene) in
      let no : caught_up_of (new_stamp_of s.worlds) o ≡ false = ap (λ (x : Timestamp). caught_up_of x o) (sym hn) ∙ sym hb ∙ f in
      let e : m - k ≡ suc (m - (k + 1)) = omega arith in
      let one : and_then (stepped_new s) (caught_of (m - (k + 1)) o) ≡ caught_of (m - k) o s = turn (m - (k + 1)) o s no ∙ ap (λ (x : ℕ). caught_of x o s)
      (sym e) in
      record {
        bound = omega arith;
        known = subst (λ (x : ℕ). r ≤ quiet_steps_of (world_of t.worlds x).commands) kept known;
        at = omega (arith, c.at, few);
        rest = λ u now r. c.rest u now (plays_as one (plays_then (caught_of (m - (k + 1)) o) h r));
      }

  -- the new world has caught up
  pub caught_up : {n : Timestamp} {b : Bool} → n ≡ new_stamp_of s.worlds → b ≡ caught_up_of n o → b ≡ true → Plays (caught_of m o from) was s tape
  caught_up hn hb f =
      let yes : caught_up_of (new_stamp_of s.worlds) o ≡ true = ap (λ (x : Timestamp). caught_up_of x o) (sym hn) ∙ sym hb ∙ f in
      c.rest s tape (plays_as (stop (m - k) o s yes) (plays_still s tape))

  -- it has made all its steps
  pub caught_end : m ≤ k → Plays (caught_of m o from) was s tape
  caught_end l =
      let z : m - k ≡ 0 = omega arith in
      c.rest s tape (plays_as (none o s ∙ ap (λ (x : ℕ). caught_of x o s) (sym z)) (plays_still s tape))

-- by the stamp's other name
pub caught_as : (m : ℕ) {o q : Timestamp} (s : Scene) {was now : Tape} {u : Scene} → o ≡ q
    → Plays (caught_of m o s) was u now → Plays (caught_of m q s) was u now
caught_as m s e h = plays_as (ap (λ (x : Timestamp). caught_of m x s) e) h
