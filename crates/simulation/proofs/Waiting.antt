-- A world whose buffer waits: a step moves its stamp, and nothing else. Assumes nothing.
use Rattle.std.proofs.Common.{◌≡◌, ℕ, true, eqb, List, [], ◌∷◌, ◌++◌, length, sym, refl, ap, ◌∙◌, arith, eqb-true}
use Rattle.timestamp.specs.declared.Timestamp.{Timestamp}
use Rattle.timestamp.specs.Timestamps.{sum_of}
use Rattle.timestamp.proofs.Tests.{apart}
use Rattle.tape.specs.declared.Tape.{Tape}
use Rattle.tape.specs.Tape.{PutsOn}
use Rattle.tape.specs.Words.{step_word}
use Rattle.tape.proofs.Writing.{on_as}
use Rattle.command.specs.Entries.{Entry}
use Rattle.command.specs.declared.CommandBuffer.{CommandBuffer}
use Rattle.command.specs.Buffer.{around, moved_of, taken_of, rest_of, command_words}
use Rattle.command.specs.Ranks.{waits_of}
use Rattle.command.proofs.Ledger.{moved_lossless, drained_lossless}
use Rattle.simulation.specs.declared.Simulation.{Simulation}
use Rattle.simulation.specs.World.{world_with, next_stamp, Done, Does, step_of}

-- a list of no length is empty
nothing : (xs : List Entry) → length xs ≡ 0 → xs ≡ []
nothing [] h = refl
nothing (x ∷ xs) h = absurd (omega arith)

-- a world whose stamp has moved on
abbrev pub moved_on : Simulation → Simulation
moved_on w = world_with (around (next_stamp w.commands.timestamp) w.commands) w.init

-- what a step does where the buffer waits
abbrev pub waited_of : Simulation → ℕ → Done
waited_of w side = record { world = moved_on w; words = step_word side ∷ []; applied = 0; leftout = 0 }

-- a step of such a world moves its stamp, and nothing else
pub step_waits : (w : Simulation) (side : ℕ) → waits_of w.commands (next_stamp w.commands.timestamp) ≡ true → step_of w side ≡ waited_of w side
unfolding step_of waits_of command_words
step_waits w side h =
    let b : CommandBuffer = w.commands in
    let n : Timestamp = next_stamp b.timestamp in
    let two : (eqb (length (taken_of b n)) 0 ≡ true) × (eqb (moved_of b n).dropped 0 ≡ true) = apart _ _ h in
    let taken : length (taken_of b n) ≡ 0 = eqb-true _ _ two.0 in
    let dropped : (moved_of b n).dropped ≡ 0 = eqb-true _ _ two.1 in
    let rest : rest_of b n ≡ b = drained_lossless b n taken in
    let moved : (moved_of (rest_of b n) n).buffer ≡ around n b = ap (λ (x : CommandBuffer). (moved_of x n).buffer) rest ∙ moved_lossless b n dropped in
    let out : (moved_of (rest_of b n) n).dropped ≡ 0 = ap (λ (x : CommandBuffer). (moved_of x n).dropped) rest ∙ dropped in
    let words : command_words side (taken_of b n) ++ (step_word side ∷ []) ≡ step_word side ∷ [] =
    ap (λ (x : List Entry). command_words side x ++ (step_word side ∷ [])) (nothing (taken_of b n) taken) in
    (λ i. record { world = world_with (moved i) w.init; words = words i; applied = taken i; leftout = out i })

-- the same, as the code leaves it: n is the next stamp
pub waits_does : (w : Simulation) (side : ℕ) {n : Timestamp} {was now : Tape} {word : ℕ}
    → n.0 ≡ sum_of w.commands.timestamp.0 1 → waits_of w.commands n ≡ true → word ≡ step_word side → PutsOn was (word ∷ []) now
    → Does (step_of w side) was (world_with (around n w.commands) w.init) (record { applied = 0; leftout = 0 }) now
waits_does w side {n} hn hf hw hp =
    let next : n ≡ next_stamp w.commands.timestamp = ap (λ (x : ℕ). record { 0 = x }) hn in
    let one : step_of w side ≡ waited_of w side = step_waits w side (ap (waits_of w.commands) (sym next) ∙ hf) in
    record {
      world = ap (λ (x : Timestamp). world_with (around x w.commands) w.init) next ∙ ap (λ (d : Done). d.world) (sym one);
      applied = ap (λ (d : Done). d.applied) (sym one);
      leftout = ap (λ (d : Done). d.leftout) (sym one);
      puts = on_as (ap (λ (x : ℕ). x ∷ []) hw ∙ ap (λ (d : Done). d.words) (sym one)) hp;
    }
