-- Both ledgers stay in balance through the frames of an update, its skip and its end. Assumes nothing.
use mathlib.Core.Path.{◌≡◌, refl, ap, ◌∙◌}
use mathlib.Core.Bool.{true, cond}
use mathlib.Core.List.{[], ◌∷◌}
use Prim.Native.Nat.{ℕ, zero, suc, ◌+◌, ◌^◌, ◌≤◌, ◌<◌}
use native.Mathlib.Omega.{arith}
use lib.Dec.{eqb}
use lib.ListN.{length}
use lib.Ieee.{Float}
use Rattle.timestamp.specs.declared.Timestamp.{Timestamp}
use Rattle.tape.specs.Words.{snapshot_word, commands_on}
use Rattle.tape.proofs.Counting.{commands_on-append, commands_on_snapshot, commands_on_publish, commands_on_none, commands_on_mix}
use Rattle.command.specs.declared.CommandBuffer.{CommandBuffer}
use Rattle.command.specs.Buffer.{held, moved_of, rest_of}
use Rattle.command.proofs.Ledger.{moved_ledger, drained_ledger, emptied_held}
use Rattle.simulation.specs.World.{step_of, reset_of, load_of}
use Rattle.client.specs.declared.ClientWorldSimulations.{ClientWorldSimulations}
use Rattle.client.specs.declared.Scene.{Scene}
use Rattle.client.specs.Sides.{world_of, with_world, with_worlds, ledger_of, with_ledger, old_stamp_of, Played, and_then, done_at}
use Rattle.client_publish.proofs.Telling.{Telling, of_none, of_side, of_mix, told}
use Rattle.client_load.specs.Load.{loaded_at, loaded_of, readied_with}
use Rattle.client_frame.specs.Frame.{stepped_side, with_step}
use Rattle.client_frame.proofs.Induction.{Law, Chains, reset_at}
use Rattle.settings.specs.declared.Settings.{Settings}
use Rattle.fixed_timestepper.specs.TimeKeeper.{Run, updated_of}
use Rattle.fixed_timestepper.proofs.Induction.{updated_by, AllMoves, moves_by}
use Rattle.client_skip.specs.Skip.{emptied_base}
use Rattle.client_publish.specs.Ending.{post_update_of}
use Rattle.session_laws.proofs.LedgerBooks.{books_as, books_more, books_loads}
use Rattle.session_laws.proofs.LedgerSides.{entries_of, held_at, Kept, kept_as, kept_more, none_on, step_spends, reset_spends, done_kept}

-- the books of the side x after a run, with k command words of x before it
abbrev pub KeptBy : (x h n k : ℕ) → Run → Type 0
KeptBy x h n k r = Kept x h n (k + commands_on x r.played.words) r.played.scene

-- ---- one thing and then another

-- nothing happens, or nothing that is told
quiet_kept : {x h n k : ℕ} {s : Scene} → Kept x h n k s → Kept x h (n + 0) (k + commands_on x []) s
quiet_kept {x} c = kept_more (omega arith) (kept_as (omega (arith, none_on x)) c)

-- two things
then_kept : {x h n : ℕ} (k : ℕ) (p : Played) (f : Scene → Played)
    → Kept x h n (k + commands_on x p.words + commands_on x (f p.scene).words) (f p.scene).scene
    → Kept x h n (k + commands_on x (and_then p f).words) (and_then p f).scene
unfolding and_then
then_kept {x} k p f c = kept_as (omega (arith, commands_on-append x p.words (f p.scene).words)) c

-- ---- a load

snapshot_none : (x side i : ℕ) → commands_on x (snapshot_word side i ∷ []) ≡ 0
snapshot_none x side i = commands_on_snapshot x [] side i ∙ none_on x

-- the base, drained and copied
rest_few : (b : CommandBuffer) (t : Timestamp) → length (held b) ≤ 64 → length (held (rest_of b t)) ≤ 64
rest_few b t h = omega (arith, drained_ledger b t)

-- a snapshot is loaded into a side
loaded_kept : {h n k : ℕ} (x side : ℕ) (s : Scene) (t : Timestamp) (i : ℕ) → x < 2 → side < 2 → n + 64 < 2 ^ 64 → Kept x h n k s
    → Kept x h (n + 64) (k + commands_on x (loaded_of s side t i).words) (loaded_of s side t i).scene
unfolding loaded_of loaded_at load_of readied_with ledger_of with_ledger world_of with_world
loaded_kept zero zero s t i p q z c =
    let b : CommandBuffer = rest_of s.worlds.base t in
    let m : length (held b) ≤ 64 = rest_few s.worlds.base t c.base in
    record {
      books = books_as (omega (arith, snapshot_none 0 0 i)) refl
          (books_loads s.left (length (held b)) (moved_of b t).dropped (length (held (moved_of b t).buffer)) z m (moved_ledger b t) c.books);
      base = m;
    }
loaded_kept (suc zero) (suc zero) s t i p q z c =
    let b : CommandBuffer = rest_of s.worlds.base t in
    let m : length (held b) ≤ 64 = rest_few s.worlds.base t c.base in
    record {
      books = books_as (omega (arith, snapshot_none 1 1 i)) refl
          (books_loads s.right (length (held b)) (moved_of b t).dropped (length (held (moved_of b t).buffer)) z m (moved_ledger b t) c.books);
      base = m;
    }
loaded_kept zero (suc zero) s t i p q z c =
    record { books = books_more (omega arith) (books_as (omega (arith, snapshot_none 0 1 i)) refl c.books); base = rest_few s.worlds.base t c.base }
loaded_kept (suc zero) zero s t i p q z c =
    record { books = books_more (omega arith) (books_as (omega (arith, snapshot_none 1 0 i)) refl c.books); base = rest_few s.worlds.base t c.base }
loaded_kept zero (suc (suc side)) s t i p q z c = absurd (omega arith)
loaded_kept (suc zero) (suc (suc side)) s t i p q z c = absurd (omega arith)
loaded_kept (suc (suc x)) side s t i p q z c = absurd (omega arith)

-- ---- other worlds with the same buffers

-- the buffers of v and w are the same
pub record SameBuffers (v w : ClientWorldSimulations) : Type 0 where
  pub left : v.left ≡ w.left
  pub right : v.right ≡ w.right
  pub base : v.base ≡ w.base

pub same_buffers_then : {u v w : ClientWorldSimulations} → SameBuffers u v → SameBuffers v w → SameBuffers u w
same_buffers_then e d = record { left = e.left ∙ d.left; right = e.right ∙ d.right; base = e.base ∙ d.base }

pub same_buffers_kept : {x h n k : ℕ} (s : Scene) (w : ClientWorldSimulations) → SameBuffers s.worlds w → Kept x h n k s → Kept x h n k (with_worlds s w)
unfolding ledger_of world_of
same_buffers_kept {x} s w e c =
    let d : held_at x s.worlds ≡ held_at x w = λ i. entries_of (cond (eqb x 0) (e.left i) (e.right i)) in
    record { books = books_as refl d c.books; base = omega (arith, c.base, ap (λ (b : CommandBuffer). length (held b)) e.base) }

-- ---- what is published

-- it puts no command word
told_none : (x : ℕ) (w : Telling) → commands_on x (told w) ≡ 0
told_none x of_none = commands_on_none x [] ∙ none_on x
told_none x (of_side side) = commands_on_publish x [] side ∙ none_on x
told_none x (of_mix t) = commands_on_mix x t

-- ---- each move of an update, for the side x

-- the law of the side x from h held at the start: with at most n more copied, while no count wraps
abbrev Balances : (x h : ℕ) → Law
Balances x h n s p = (most k : ℕ) → most + n < 2 ^ 64 → Kept x h most k s → Kept x h (most + n) (k + commands_on x p.words) p.scene

balances_chains : (x h : ℕ) → Chains (Balances x h)
balances_chains x h =
    record {
      more = λ n m s p e f most k z c. kept_more (omega arith) (f most k (omega arith) c);
      stays = λ s most k z c. quiet_kept c;
      next = λ n m s p f a b most k z c.
          kept_more (omega arith) (then_kept k p f (b (most + n) (k + commands_on x p.words) (omega arith) (a most k (omega arith) c)));
    }

module _ (x h : ℕ) (below : x < 2) where
  -- a reset of a side
  reset_kept : {n k : ℕ} (s : Scene) (side : ℕ) (t : Timestamp) → side < 2 → n < 2 ^ 64 → Kept x h n k s
      → Kept x h n (k + commands_on x (reset_at s side t).words) (reset_at s side t).scene
  unfolding done_at
  reset_kept s side t q z c =
      done_kept x side s (reset_of (world_of s.worlds side) t side) below q z (reset_spends (world_of s.worlds side) t side q) c

  -- a step of a side
  stepped_kept : {n k : ℕ} (s : Scene) (side : ℕ) → side < 2 → n < 2 ^ 64 → Kept x h n k s
      → Kept x h n (k + commands_on x (stepped_side s side).words) (stepped_side s side).scene
  unfolding stepped_side done_at
  stepped_kept s side q z c = done_kept x side s (step_of (world_of s.worlds side) side) below q z (step_spends (world_of s.worlds side) side q) c

  with_step_kept : {n k : ℕ} (s : Scene) → Kept x h n k s → Kept x h n k (with_step s)
  unfolding ledger_of
  with_step_kept s c = record { books = c.books; base = c.base }

  emptied_kept : {n k : ℕ} (s : Scene) → Kept x h n k s → Kept x h n k (emptied_base true s)
  unfolding ledger_of world_of
  emptied_kept s c = record { books = c.books; base = omega (arith, ap length (emptied_held s.worlds.base)) }

  -- what every update ends with
  post_kept : {n k : ℕ} (s : Scene) (t : Float) (lag : ℕ) → Kept x h n k s → Kept x h n k (with_worlds s (post_update_of s.worlds t lag))
  unfolding post_update_of ledger_of world_of
  post_kept s t lag c = record { books = c.books; base = omega (arith, c.base, moved_ledger s.worlds.base (old_stamp_of s.worlds)) }

  -- a load copies at most 64, and no other move any
  balances_moves : AllMoves (Balances x h) 64 0 0 0
  balances_moves =
      record {
        moves = record {
          stepping = record {
            chains = balances_chains x h;
            steps = λ s side q most k z c. kept_more (omega arith) (stepped_kept s side q (omega arith) c);
            counts = λ s most k z c. quiet_kept (with_step_kept s c);
          };
          fits = omega arith;
          loads = λ s side t i q most k z c. loaded_kept x side s t i below q z c;
          resets = λ s side t q most k z c. kept_more (omega arith) (reset_kept s side t q (omega arith) c);
          weighs = λ s t most k z c. quiet_kept (same_buffers_kept s _ (record { left = refl; right = refl; base = refl }) c);
          shows = λ s l w most k z c. kept_more (omega arith)
              (kept_as (omega (arith, told_none x w)) (same_buffers_kept s _ (record { left = refl; right = refl; base = refl }) c));
        };
        empties = λ s most k z c. quiet_kept (emptied_kept s c);
        ends = λ s t lag most k z c. quiet_kept (post_kept s t lag c);
      }

  -- the worlds' part of an update: at most 65 × 64 are copied
  pub updated_kept : {n k : ℕ} (c : Settings) (s : Scene) (o delta server : Float) → n + 4160 < 2 ^ 64 → Kept x h n k s
      → KeptBy x h (n + 4160) k (updated_of c s o delta server)
  updated_kept {n} {k} c s o delta server z g = kept_more (omega arith) (updated_by (moves_by balances_moves c) s o delta server n k (omega arith) g)
