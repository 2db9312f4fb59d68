-- The snapshot words of what happened are its loads: a frame that loads puts one, and nothing else puts any. Assumes nothing.
use mathlib.Core.Bool.{Bool, true, false, cond}
use mathlib.Core.List.{List, [], ◌∷◌, ◌++◌}
use mathlib.Core.Path.{◌≡◌, refl}
use Prim.Native.Nat.{ℕ, zero, suc, ◌+◌, ◌≤◌}
use native.Mathlib.Omega.{arith}
use lib.Dec.{eqb}
use lib.ListN.{replicate}
use lib.Ieee.{Float}
use Rattle.timestamp.specs.declared.Timestamp.{Timestamp}
use Rattle.tape.specs.Words.{kind_of, step_word, publish_word, none_word, weight_words, mix_words, snapshot_words}
use Rattle.tape.proofs.Reading.{kind_of_step, kind_of_command, kind_of_snapshot, kind_of_publish, kind_of_mix, kind_of_weight, kind_of_none}
use Rattle.command.specs.Entries.{Entry, handle_in}
use Rattle.command.specs.Buffer.{held, taken_of, moved_of, command_words}
use Rattle.simulation.specs.declared.Simulation.{Simulation}
use Rattle.simulation.specs.World.{next_stamp, step_of, resets_back, kept_of, flushed_of, reset_of}
use Rattle.client.specs.declared.FastforwardingHealth.TheVariants.{Healthy, Obsolete, Overshot}
use Rattle.client.specs.declared.ReconciliationStatus.{ReconciliationStatus}
use Rattle.client.specs.declared.ReconciliationStatus.TheVariants.{AwaitingSnapshot, Fastforwarding, Blending}
use Rattle.client.specs.declared.QueuedSnapshot.{QueuedSnapshot}
use Rattle.std.specs.Prelude.{Option, Some, None}
use Rattle.client.specs.declared.Scene.{Scene}
use Rattle.client.specs.Sides.{new_side_of, old_side_of, world_of, old_stamp_of, and_then, done_at}
use Rattle.client.specs.Status.{status_of}
use Rattle.client_publish.proofs.Telling.{Telling, of_none, of_side, of_mix, told}
use Rattle.client_frame.specs.declared.Rules.{Rules}
use Rattle.client_load.specs.Load.{loaded_at, loaded_of}
use Rattle.client_frame.specs.Frame.{loads_of, loaded_queued, reset_new, opened_of, stepped_side, blended_by, shown_of, snapshot_of, frame_opened}
use Rattle.client_frame.specs.Frame.{frame_of}
use Rattle.client_frame.proofs.Induction.{Law, Chains, parts_by, shown_by_lem}
use Rattle.client_skip.specs.Skip.{skipped_of}
use Rattle.fixed_timestepper.proofs.Induction.{AllMoves, skip_by}
use Rattle.demand.specs.Events.{Event, FrameFrom, SkipFrom}
use Rattle.demand.specs.Demand.{load_by, load_in, words_in, count_load, load_count_in}

-- ---- along a list

loads-append : (us ws : List ℕ) → snapshot_words (us ++ ws) ≡ snapshot_words us + snapshot_words ws
unfolding snapshot_words
loads-append [] ws = omega arith
loads-append (u ∷ us) ws = omega (arith, loads-append us ws)

loads_zeros : (n : ℕ) → snapshot_words (replicate n 0) ≡ 0
unfolding snapshot_words
loads_zeros zero = refl
loads_zeros (suc n) = omega (arith, loads_zeros n)

-- a word of another kind
loads_pass : (w k : ℕ) (ws : List ℕ) → kind_of w ≡ k → eqb k 3 ≡ false → snapshot_words (w ∷ ws) ≡ snapshot_words ws
unfolding snapshot_words
loads_pass w k ws e h = rw (e, h) (omega arith)

loads_commands : (side : ℕ) (es : List Entry) → snapshot_words (command_words side es) ≡ 0
unfolding command_words snapshot_words
loads_commands side [] = refl
loads_commands side (e ∷ es) = rw (kind_of_command side (handle_in e)) (omega (arith, loads_commands side es))

loads_none : snapshot_words [] ≡ 0
unfolding snapshot_words
loads_none = refl

-- ---- the moves

-- at most so many snapshot words are put
abbrev AtMost : Law
AtMost n s p = snapshot_words p.words ≤ n

at_most_chains : Chains AtMost
unfolding and_then
at_most_chains =
    record {
      more = λ n k s p e h. omega arith;
      stays = λ s. omega (arith, loads_none);
      next = λ n k s p f h g. omega (arith, loads-append p.words (f p.scene).words);
    }

step_quiet : (w : Simulation) (x : ℕ) → snapshot_words (step_of w x).words ≡ 0
unfolding step_of
step_quiet w x =
    let t = taken_of w.commands (next_stamp w.commands.timestamp) in
    omega (arith, loads-append (command_words x t) (step_word x ∷ []), loads_commands x t, loads_pass (step_word x) 1 [] (kind_of_step x) refl, loads_none)

reset_quiet : (w : Simulation) (t : Timestamp) (x : ℕ) → snapshot_words (reset_of w t x).words ≡ 0
unfolding reset_of
reset_quiet w t x = go (resets_back t w.commands.timestamp)
  where
    go : (b : Bool) → snapshot_words (cond b (flushed_of w t x) (kept_of w t)).words ≡ 0
    go true = loads_commands x (held (moved_of w.commands t).buffer)
    go false = loads_none

told_quiet : (w : Telling) → snapshot_words (told w) ≡ 0
unfolding mix_words weight_words snapshot_words
told_quiet of_none = loads_pass none_word 7 [] kind_of_none refl
told_quiet (of_side x) = loads_pass (publish_word x) 4 [] (kind_of_publish x) refl
told_quiet (of_mix t) = simp (kind_of_mix, kind_of_weight)

-- a load puts one
loaded_one : (s : Scene) (x : ℕ) (t : Timestamp) (h : ℕ) → snapshot_words (loaded_of s x t h).words ≡ 1
unfolding loaded_of loaded_at snapshot_words
loaded_one s x t h = rw (kind_of_snapshot x h) (omega arith)

at_most : AllMoves AtMost 1 0 0 0
unfolding stepped_side done_at
at_most =
    record {
      moves = record {
        stepping = record {
          chains = at_most_chains;
          steps = λ s x l. omega (arith, step_quiet (world_of s.worlds x) x);
          counts = λ s. omega (arith, loads_none);
        };
        fits = omega arith;
        loads = λ s x t h l. omega (arith, loaded_one s x t h);
        resets = λ s x t l. omega (arith, reset_quiet (world_of s.worlds x) t x);
        weighs = λ s t. omega (arith, loads_none);
        shows = λ s l w. omega (arith, told_quiet w);
      };
      empties = λ s. omega (arith, loads_none);
      ends = λ s t lag. omega (arith, loads_none);
    }

-- ---- the load of a frame

loaded_once : (s : Scene) (q : Option QueuedSnapshot) (x : ℕ) (o : Timestamp) → snapshot_words (loaded_queued s q x).words ≡ count_load (load_by q o)
unfolding loaded_queued
loaded_once s None x o = loads_none
loaded_once s (Some q) x o = loaded_one s x q.stamp q.handle

opened_once : (t : ReconciliationStatus) (q : Option QueuedSnapshot) (p : Float) (s : Scene) (o : Timestamp)
    → snapshot_words (opened_of t (loads_of t q) p s).words ≡ count_load (load_by (loads_of t q) o)
unfolding opened_of reset_new done_at
opened_once AwaitingSnapshot q p s o = loaded_once s q (old_side_of s.worlds) o
opened_once (Blending t) q p s o = loads_none
opened_once (Fastforwarding Healthy) q p s o = loads_none
opened_once (Fastforwarding Obsolete) q p s o = loaded_once s q (new_side_of s.worlds) o
opened_once (Fastforwarding Overshot) q p s o = reset_quiet (world_of s.worlds (new_side_of s.worlds)) (old_stamp_of s.worlds) (new_side_of s.worlds)

frame_once : (r : Rules) (s : Scene) → snapshot_words (frame_of r s).words ≡ count_load (load_in s)
unfolding frame_of frame_opened snapshot_of and_then
frame_once r s =
    let b : Bool = blended_by (status_of s.worlds) (snapshot_of s) in
    let u : Scene = (frame_opened r s).scene in
    omega (
      arith,
      loads-append (frame_opened r s).words (shown_of r.m b u).words,
      opened_once (status_of s.worlds) s.worlds.snapshots.queued r.progress s (old_stamp_of s.worlds),
      shown_by_lem (parts_by at_most.moves r) b u,
    )

-- ---- along a trace

trace_loads : (es : List Event) → snapshot_words (words_in es) ≡ load_count_in es
trace_loads [] = loads_none
trace_loads (FrameFrom r s ∷ es) = omega (arith, loads-append (frame_of r s).words (words_in es), frame_once r s, trace_loads es)
trace_loads (SkipFrom s t ∷ es) = omega (arith, loads-append (skipped_of s t).words (words_in es), skip_by at_most s t, trace_loads es)

-- the snapshot words on a tape of what happened
pub tape_loads : (es : List Event) (n : ℕ) → snapshot_words (words_in es ++ replicate n 0) ≡ load_count_in es
tape_loads es n = omega (arith, loads-append (words_in es) (replicate n 0), loads_zeros n, trace_loads es)

pub loads_join : (t u : List Event) → load_count_in (t ++ u) ≡ load_count_in t + load_count_in u
loads_join [] u = omega arith
loads_join (FrameFrom r s ∷ t) u = omega (arith, loads_join t u)
loads_join (SkipFrom s x ∷ t) u = loads_join t u
