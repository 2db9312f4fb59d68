-- An update of the worlds by its elementary moves: its frames, a skip after them and what it ends with. Who shows a thing of each move has it of the update.
-- Assumes nothing.
use mathlib.Core.Path.{◌≡◌, refl}
use mathlib.Core.Bool.{Bool, true, false, cond}
use Prim.Native.Nat.{ℕ, zero, suc, ◌+◌, ◌*◌, ◌<◌}
use native.Mathlib.Omega.{arith}
use lib.Dec.{eqb}
use lib.Ieee.{Float, binary64, add, sub, lt}
use Rattle.timestamp.specs.declared.Timestamp.{Timestamp}
use Rattle.timestamp.specs.Timestamps.{bits_of}
use Rattle.settings.specs.declared.Settings.{Settings}
use Rattle.settings.specs.Settings.{lag_frame_count_of}
use Rattle.settings.specs.Tweening.{shaped_of}
use Rattle.client.specs.declared.Scene.{Scene}
use Rattle.client.specs.Sides.{new_side_of, old_side_of, old_stamp_of, new_stamp_of, with_worlds, Played, still, and_then}
use Rattle.client_frame.specs.Frame.{frame_of, frame_stops}
use Rattle.client_frame.proofs.Induction.{Law, Chains, quietly, quiet_by, still_by, either_by, new_below, old_below, frame_by, reset_at, Moves, parts_by}
use Rattle.client_skip.specs.Skip.{reset_side, reset_along, skips_back, emptied_base, reset_both, skipped_of}
use Rattle.client_publish.specs.Ending.{post_update_of}
use Rattle.timestamp.specs.Floats.{tween_of, zero64}
use Rattle.refusals.specs.declared.Stop.{Stop}
use Rattle.refusals.specs.declared.Stop.TheVariants.{Done, TooManyFrames, StatusStops}
use Rattle.fixed_timestepper.specs.TimeKeeper.{compensated_of, rules_of, Run, ended, framed, goes_on, while_below, run_of, corrected_of, skips_of, skipped}
use Rattle.fixed_timestepper.specs.TimeKeeper.{maybe_skipped, ends_with, skipped_by, advanced_of, unended_of, updated_of}

-- the frame of a scene
abbrev pub frame : Settings → Scene → Played
frame c s = frame_of (rules_of c) s

-- the overshoot a frame on
abbrev pub later : Settings → Float → Float
later c o = add binary64 o c.timestep

-- ---- the frames of an update

-- a relation of at most n frames, the scene and the overshoot before them, and the run: of each way to end, and of a frame in front
pub record Runs (c : Settings) (R : ℕ → Scene → Float → Run → Type 0) : Type 0 where
  pub full : (s : Scene) (o : Float) → lt o zero64 ≡ true → R 0 s o (ended TooManyFrames s o)
  pub done : (n : ℕ) (s : Scene) (o : Float) → lt o zero64 ≡ false → R n s o (ended Done s o)
  pub stops : (n : ℕ) (s : Scene) (o : Float) → lt o zero64 ≡ true → R (suc n) s o (framed (rules_of c) s (ended StatusStops (frame c s).scene (later c o)))
  pub goes : (n : ℕ) (s : Scene) (o : Float) (r : Run) → lt o zero64 ≡ true → R n (frame c s).scene (later c o) r → R (suc n) s o (framed (rules_of c) s r)

module _ {c : Settings} {R : ℕ → Scene → Float → Run → Type 0} (h : Runs c R) where
  below_by : (n : ℕ) (s : Scene) (o : Float) (r : Run) (b : Bool) → lt o zero64 ≡ b → (lt o zero64 ≡ true → R n s o r) → R n s o (while_below b s o r)
  below_by n s o r true e k = k e
  below_by n s o r false e k = h.done n s o e

  goes_by : (n : ℕ) (s : Scene) (o : Float) (r : Run) (b : Bool) → lt o zero64 ≡ true → R n (frame c s).scene (later c o) r
      → R (suc n) s o (framed (rules_of c) s (goes_on b (frame c s).scene (later c o) r))
  goes_by n s o r true e k = h.stops n s o e
  goes_by n s o r false e k = h.goes n s o r e k

  -- so many frames at most
  pub run_by : (n : ℕ) (s : Scene) (o : Float) → R n s o (run_of n c s o)
  unfolding run_of
  run_by zero s o = below_by 0 s o (ended TooManyFrames s o) (lt o zero64) refl (h.full s o)
  run_by (suc n) s o =
      let b : Bool = frame_stops (rules_of c) s in
      let q : Run = run_of n c (frame c s).scene (later c o) in
      let i : R n (frame c s).scene (later c o) q = run_by n (frame c s).scene (later c o) in
      below_by (suc n) s o (framed (rules_of c) s (goes_on b (frame c s).scene (later c o) q)) (lt o zero64) refl (λ e. goes_by n s o q b e i)

-- ---- what comes after them

-- whether a run that ended by itself goes on to a skip
abbrev pub to_skip : Settings → Float → Run → Bool
to_skip c server r = skips_of (old_stamp_of r.played.scene.worlds) r.overshoot server c

-- a thing R of the frames gives a thing E of the update: no skip, a skip, and what is displayed at the end
pub record Ends (c : Settings) (server : Float) (R E : Run → Type 0) : Type 0 where
  pub rests : (r : Run) → (r.stop ≡ Done → to_skip c server r ≡ false) → R r → E r
  pub skips : (r : Run) → to_skip c server r ≡ true → R r → E (skipped r server c)
  pub shows : (r : Run) (t : Float) (lag : ℕ) → E r → E (ends_with r (post_update_of r.played.scene.worlds t lag))

module _ {c : Settings} {server : Float} {R E : Run → Type 0} (h : Ends c server R E) where
  maybe_by : (b : Bool) (r : Run) → to_skip c server r ≡ b → R r → E (cond b (skipped r server c) r)
  maybe_by true r e k = h.skips r e k
  maybe_by false r e k = h.rests r (λ d. e) k

  -- the frames, by why they ended, and the skip after them
  after_by : (x : Stop) (r : Run) → r.stop ≡ x → R r → E (skipped_by x r server c)
  unfolding maybe_skipped
  after_by Done r e k = maybe_by (to_skip c server r) r refl k
  after_by TooManyFrames r e k = h.rests r (λ d. absurd (let z : ◌≡◌ {A = ℕ} 0 1 = cc in omega arith)) k
  after_by StatusStops r e k = h.rests r (λ d. absurd (let z : ◌≡◌ {A = ℕ} 0 1 = cc in omega arith)) k

  -- an update of the worlds
  pub ended_by : (s : Scene) (o delta : Float) → R (advanced_of c s o delta server) → E (updated_of c s o delta server)
  unfolding updated_of unended_of
  ended_by s o delta k =
      let u : Run = unended_of c s o delta server in
      h.shows u (shaped_of c.method (tween_of u.overshoot c.timestep)) (bits_of (lag_frame_count_of c))
      (after_by (advanced_of c s o delta server).stop (advanced_of c s o delta server) refl k)

-- ---- a law of an update

-- a law of a frame, of a skip, and of what is displayed at the end
pub record Updates (P : Law) (c : Settings) (one skip : ℕ) : Type 0 where
  pub chains : Chains P
  pub frames : (s : Scene) → P one s (frame c s)
  pub skips : (s : Scene) (t : Timestamp) → P skip s (skipped_of s t)
  pub ends : (s : Scene) (t : Float) (lag : ℕ) → P 0 s (still (with_worlds s (post_update_of s.worlds t lag)))

module _ {P : Law} {c : Settings} {one skip : ℕ} (h : Updates P c one skip) where
  framed_by : (n : ℕ) (s : Scene) (r : Run) → P (n * one) (frame c s).scene r.played → P (suc n * one) s (framed (rules_of c) s r).played
  unfolding framed and_then
  framed_by n s r k =
      h.chains.more (one + n * one) (suc n * one) s (framed (rules_of c) s r).played (omega arith)
      (h.chains.next one (n * one) s (frame c s) (λ (t : Scene). r.played) (h.frames s) k)

  law_runs : Runs c (λ n s o r. P (n * one) s r.played)
  law_runs =
      record {
        full = λ s o e. still_by h.chains (0 * one) s;
        done = λ n s o e. still_by h.chains (n * one) s;
        stops = λ n s o e. framed_by n s (ended StatusStops (frame c s).scene (later c o)) (still_by h.chains (n * one) (frame c s).scene);
        goes = λ n s o r e k. framed_by n s r k;
      }

  skipped_by_lem : (n : ℕ) (s : Scene) (r : Run) (server : Float) → P n s r.played → P (n + skip) s (skipped r server c).played
  unfolding skipped
  skipped_by_lem n s r server k =
      let t : Timestamp = corrected_of server c.timestep in
      h.chains.next n skip s r.played (λ (u : Scene). skipped_of u t) k (h.skips r.played.scene t)

  law_ends : (n : ℕ) (s : Scene) (server : Float) → Ends c server (λ r. P n s r.played) (λ r. P (n + skip) s r.played)
  law_ends n s server =
      record {
        rests = λ r e k. h.chains.more n (n + skip) s r.played (omega arith) k;
        skips = λ r e k. skipped_by_lem n s r server k;
        shows = λ r t lag k. quiet_by h.chains (n + skip) s r.played (λ (u : Scene). with_worlds u (post_update_of u.worlds t lag)) k
            (h.ends r.played.scene t lag);
      }

  -- the worlds' part of an update
  pub updated_by : (s : Scene) (o delta server : Float) → P (65 * one + skip) s (updated_of c s o delta server).played
  unfolding advanced_of
  updated_by s o delta server = ended_by (law_ends (65 * one) s server) s o delta
      (run_by law_runs 65 s (sub binary64 o (compensated_of (old_stamp_of s.worlds) o delta server c)))

-- ---- by its moves

-- a side's reset makes both of a skip's
module _ {P : Law} {reset : ℕ} (c : Chains P) (resets : (s : Scene) (side : ℕ) (t : Timestamp) → side < 2 → P reset s (reset_at s side t)) where
  along_by : (s : Scene) (t : Timestamp) → P reset s (reset_along s t)
  unfolding reset_along reset_side
  along_by s t =
      let side : ℕ = new_side_of s.worlds in
      either_by (P reset s) (eqb (new_stamp_of s.worlds).0 (old_stamp_of s.worlds).0) (reset_at s side t) (still s)
      (resets s side t (new_below s.worlds)) (still_by c reset s)

  pub both_by_lem : (s : Scene) (t : Timestamp) → P (reset + reset) s (reset_both s t)
  unfolding reset_both reset_side
  both_by_lem s t =
      let side : ℕ = old_side_of s.worlds in
      c.next reset reset s (reset_along s t) (λ (u : Scene). reset_at u side t) (along_by s t) (resets (reset_along s t).scene side t (old_below s.worlds))

-- a law of each elementary move of an update: those of a frame, a base that is emptied, and what is displayed at the end
pub record AllMoves (P : Law) (load reset step show : ℕ) : Type 0 where
  pub moves : Moves P load reset step show
  pub empties : (s : Scene) → P 0 s (still (emptied_base true s))
  pub ends : (s : Scene) (t : Float) (lag : ℕ) → P 0 s (still (with_worlds s (post_update_of s.worlds t lag)))

module _ {P : Law} {load reset step show : ℕ} (h : AllMoves P load reset step show) where
  -- its chains
  chains_of : Chains P
  chains_of = h.moves.stepping.chains

  emptied_by : (n : ℕ) (s : Scene) (p : Played) (b : Bool) → P n s p → P n s (quietly (emptied_base b) p)
  emptied_by n s p true k = quiet_by chains_of n s p (emptied_base true) k (h.empties p.scene)
  emptied_by n s p false k = k

  -- a skip
  pub skip_by : (s : Scene) (t : Timestamp) → P (reset + reset) s (skipped_of s t)
  unfolding skipped_of
  skip_by s t = emptied_by (reset + reset) s (reset_both s t) (skips_back t (old_stamp_of s.worlds)) (both_by_lem chains_of h.moves.resets s t)

  -- its frames, its skip and its end
  pub moves_by : (c : Settings) → Updates P c (load + (step + c.m * step + show)) (reset + reset)
  moves_by c = record { chains = chains_of; frames = frame_by (parts_by h.moves (rules_of c)); skips = skip_by; ends = h.ends }
