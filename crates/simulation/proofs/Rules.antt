-- What the code of each function comes to, over plain values: one rule for each return. Assumes nothing.
use mathlib.Core.Path.{◌≡◌, refl, ap, sym, ◌∙◌}
use mathlib.Core.Bool.{true, false}
use mathlib.Core.List.{[], ◌∷◌}
use Prim.Native.Nat.{ℕ, ◌+◌, ◌-◌}
use native.Mathlib.Omega.{arith}
use lib.ListN.{length}
use Rattle.timestamp.specs.declared.Timestamp.{Timestamp}
use Rattle.timestamp.specs.Timestamps.{sum_of}
use Rattle.tape.specs.declared.Tape.{Tape}
use Rattle.tape.specs.Tape.{PutsOn}
use Rattle.tape.specs.Words.{step_word}
use Rattle.tape.proofs.Writing.{on_none, on_then, on_as}
use Rattle.command.specs.declared.CommandBuffer.{CommandBuffer}
use Rattle.command.specs.Buffer.{Moved, held}
use Rattle.command.specs.Buffer.{moved_of, taken_of, rest_of, emptied_of, command_words, Applies, AppliesAll}
use Rattle.command.proofs.Applying.{words-length}
use Rattle.simulation.specs.declared.Simulation.{Simulation}
use Rattle.simulation.specs.World.{world_with, next_stamp, step_of, resets_back, reset_of, Does}

-- what a drain puts
drained_puts : {b left : CommandBuffer} {s : Timestamp} {side : ℕ} {was now : Tape} → Applies b s side was left now
    → PutsOn was (command_words side (taken_of b s)) now
drained_puts {b} {left} {s} {side} {was} h =
    record { at = h.at ∙ ap (λ (n : ℕ). was.at + n) (sym (words-length side (taken_of b s))); tape = h.tape; lent = h.lent }

-- what a drain of everything puts
flushed_puts : {b left : CommandBuffer} {side : ℕ} {was now : Tape} → AppliesAll b side was left now → PutsOn was (command_words side (held b)) now
flushed_puts {b} {left} {side} {was} h = record { at = h.at ∙ ap (λ (n : ℕ). was.at + n) (sym (words-length side (held b))); tape = h.tape; lent = h.lent }

-- how many were applied is how far the place has moved
moved_by : (place n a : ℕ) → a ≡ place + n → a - place ≡ n
moved_by place n a h = omega arith

-- a step
pub step_does : (w : Simulation) (side : ℕ) {was mid now : Tape} {next : Timestamp} {left : CommandBuffer} {word : ℕ} {m : Moved}
    → next.0 ≡ sum_of w.commands.timestamp.0 1 → Applies w.commands next side was left mid → word ≡ step_word side
    → PutsOn mid (word ∷ []) now → m ≡ moved_of left next
    → Does (step_of w side) was (world_with m.buffer w.init) (record { applied = mid.at - was.at; leftout = m.dropped }) now
unfolding step_of
step_does w side {was} {mid} {now} {next} {left} {word} {m} hn ha hw hp hm =
    let e : next ≡ next_stamp w.commands.timestamp = ap (λ (n : ℕ). record { 0 = n }) hn in
    let b : m ≡ moved_of (rest_of w.commands (next_stamp w.commands.timestamp)) (next_stamp w.commands.timestamp) = hm
    ∙ (λ i. moved_of ((ha.buffer ∙ ap (rest_of w.commands) e) i) (e i)) in
    record {
      world = ap (λ (x : Moved). world_with x.buffer w.init) b;
      applied = moved_by was.at _ mid.at ha.at ∙ ap (λ (t : Timestamp). length (taken_of w.commands t)) e;
      leftout = ap (λ (x : Moved). x.dropped) b;
      puts = on_then (on_as (ap (λ (t : Timestamp). command_words side (taken_of w.commands t)) e) (drained_puts ha))
          (on_as (ap (λ (x : ℕ). x ∷ []) hw) hp);
    }

-- a reset that goes back
pub reset_back : (w : Simulation) (t : Timestamp) (side : ℕ) {was now : Tape} {m : Moved} {left : CommandBuffer}
    → resets_back t w.commands.timestamp ≡ true → m ≡ moved_of w.commands t → AppliesAll m.buffer side was left now
    → Does (reset_of w t side) was (world_with left w.init) (record { applied = now.at - was.at; leftout = m.dropped }) now
unfolding reset_of
reset_back w t side {was} {now} {m} {left} hb hm ha =
    rw hb
    (record {
      world = ap (λ (x : CommandBuffer). world_with x w.init) (ha.buffer ∙ ap (λ (x : Moved). emptied_of x.buffer) hm);
      applied = moved_by was.at _ now.at ha.at ∙ ap (λ (x : Moved). length (held x.buffer)) hm;
      leftout = ap (λ (x : Moved). x.dropped) hm;
      puts = on_as (ap (λ (x : Moved). command_words side (held x.buffer)) hm) (flushed_puts ha);
    })

-- a reset that does not
pub reset_on : (w : Simulation) (t : Timestamp) (side : ℕ) {was : Tape} {m : Moved}
    → resets_back t w.commands.timestamp ≡ false → m ≡ moved_of w.commands t
    → Does (reset_of w t side) was (world_with m.buffer w.init) (record { applied = 0; leftout = m.dropped }) was
unfolding reset_of
reset_on w t side {was} {m} hb hm =
    rw hb
    (record {
      world = ap (λ (x : Moved). world_with x.buffer w.init) hm;
      applied = refl;
      leftout = ap (λ (x : Moved). x.dropped) hm;
      puts = on_none was;
    })
