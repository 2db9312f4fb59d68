-- What is done to the world of a side keeps the ledgers of both sides in balance. Assumes nothing.
use mathlib.Core.Path.{◌≡◌, refl, ap, ◌∙◌}
use mathlib.Core.Bool.{Bool, true, false, cond}
use mathlib.Core.List.{List, [], ◌∷◌}
use Prim.Native.Nat.{ℕ, zero, suc, ◌+◌, ◌-◌, ◌^◌, ◌≤◌, ◌<◌}
use native.Mathlib.Omega.{arith}
use lib.ListN.{length}
use Rattle.timestamp.specs.declared.Timestamp.{Timestamp}
use Rattle.tape.specs.Words.{step_word, commands_on}
use Rattle.tape.proofs.Counting.{commands_on-append, commands_on_step}
use Rattle.command.specs.Buffer.{held, moved_of, rest_of, taken_of, command_words}
use Rattle.command.proofs.Ledger.{moved_ledger, drained_ledger, emptied_held}
use Rattle.command.proofs.Applying.{words_counted, words_other_side}
use Rattle.simulation.specs.declared.Simulation.{Simulation}
use Rattle.simulation.specs.World.{Done, next_stamp, step_of, reset_of, flushed_of, kept_of, resets_back}
use Rattle.client.specs.declared.ClientWorldSimulations.{ClientWorldSimulations}
use Rattle.client.specs.declared.Scene.{Scene}
use Rattle.client.specs.Sides.{world_of, with_world, ledger_of, with_ledger, done_at, put_of}
use Rattle.session_laws.proofs.LedgerBooks.{Books, books_as, books_applies, books_more}

-- how many entries a world holds
abbrev pub entries_of : Simulation → ℕ
entries_of w = length (held w.commands)

-- ---- one world

-- what was done to a world accounts for each entry: applied, with a command word of its side, left out, or held still
pub record Spends (w : Simulation) (side : ℕ) (d : Done) : Type 0 where
  pub entries : entries_of w ≡ d.applied + d.leftout + entries_of d.world
  pub same : commands_on side d.words ≡ d.applied
  pub other : commands_on (1 - side) d.words ≡ 0

-- no words, and a step's word, hold no command
pub none_on : (x : ℕ) → commands_on x [] ≡ 0
unfolding commands_on
none_on x = refl

mark_none : (side x : ℕ) → commands_on x (step_word side ∷ []) ≡ 0
mark_none side x = commands_on_step x [] side ∙ none_on x

-- a step
pub step_spends : (w : Simulation) (side : ℕ) → side < 2 → Spends w side (step_of w side)
unfolding step_of
step_spends w side h =
    let n : Timestamp = next_stamp w.commands.timestamp in
    let ws : List ℕ = command_words side (taken_of w.commands n) in
    record {
      entries = omega (arith, drained_ledger w.commands n, moved_ledger (rest_of w.commands n) n);
      same = omega (arith, commands_on-append side ws (step_word side ∷ []), mark_none side side, words_counted side h (taken_of w.commands n));
      other = omega (
        arith,
        commands_on-append (1 - side) ws (step_word side ∷ []),
        mark_none side (1 - side),
        words_other_side side h
            (taken_of w.commands n),
      );
    }

-- a reset
pub reset_spends : (w : Simulation) (t : Timestamp) (side : ℕ) → side < 2 → Spends w side (reset_of w t side)
unfolding reset_of
reset_spends w t side h = go (resets_back t w.commands.timestamp)
  where
    go : (b : Bool) → Spends w side (cond b (flushed_of w t side) (kept_of w t))
    go true =
        record {
          entries = omega (arith, moved_ledger w.commands t, ap length (emptied_held (moved_of w.commands t).buffer));
          same = words_counted side h (held (moved_of w.commands t).buffer);
          other = words_other_side side h (held (moved_of w.commands t).buffer);
        }
    go false =
        record {
          entries = omega (arith, moved_ledger w.commands t);
          same = none_on side;
          other = none_on (1 - side);
        }

-- ---- a scene

-- how many entries a side holds
abbrev pub held_at : ℕ → ClientWorldSimulations → ℕ
held_at x w = entries_of (world_of w x)

-- the books of the side x are in balance, with k command words of x so far; and the base holds at most 64
pub record Kept (x h n k : ℕ) (s : Scene) : Type 0 where
  pub books : Books h n k (ledger_of s x) (held_at x s.worlds)
  pub base : length (held s.worlds.base) ≤ 64

-- the same by other names
pub kept_as : {x h n k j : ℕ} {s : Scene} → k ≡ j → Kept x h n k s → Kept x h n j s
kept_as e c = record { books = books_as e refl c.books; base = c.base }

-- a larger bound
pub kept_more : {x h n m k : ℕ} {s : Scene} → n ≤ m → Kept x h n k s → Kept x h m k s
kept_more e c = record { books = books_more e c.books; base = c.base }

-- something is done to the world of a side
pub done_kept : {h n k : ℕ} (x side : ℕ) (s : Scene) (d : Done) → x < 2 → side < 2 → n < 2 ^ 64 → Spends (world_of s.worlds side) side d
    → Kept x h n k s → Kept x h n (k + commands_on x d.words) (done_at s side d).scene
unfolding done_at put_of ledger_of with_ledger world_of with_world
done_kept {h} {n} {k} zero zero s d p q z e c =
    record {
      books = books_as (omega (arith, e.same)) refl (books_applies s.left d.applied d.leftout (entries_of d.world) z e.entries c.books);
      base = c.base;
    }
done_kept {h} {n} {k} (suc zero) (suc zero) s d p q z e c =
    record {
      books = books_as (omega (arith, e.same)) refl (books_applies s.right d.applied d.leftout (entries_of d.world) z e.entries c.books);
      base = c.base;
    }
done_kept {h} {n} {k} zero (suc zero) s d p q z e c = record { books = books_as (omega (arith, e.other)) refl c.books; base = c.base }
done_kept {h} {n} {k} (suc zero) zero s d p q z e c = record { books = books_as (omega (arith, e.other)) refl c.books; base = c.base }
done_kept zero (suc (suc side)) s d p q z e c = absurd (omega arith)
done_kept (suc zero) (suc (suc side)) s d p q z e c = absurd (omega arith)
done_kept (suc (suc x)) side s d p q z e c = absurd (omega arith)
