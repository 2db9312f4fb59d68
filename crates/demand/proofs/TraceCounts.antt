-- What is counted along a trace: frames, step words by side, the distances of skips and the words. Assumes nothing.
use mathlib.Core.Bool.{Bool, true, false, cond}
use mathlib.Core.List.{List, [], ◌∷◌, ◌++◌, append_assoc}
use mathlib.Core.Path.{◌≡◌, refl, ap, sym, ◌∙◌}
use Prim.Native.Nat.{ℕ, zero, suc, ◌+◌, ◌<◌}
use native.Mathlib.Omega.{arith}
use borrow.Author.Tests.{eqb-true, eqb-false}
use lib.Dec.{eqb}
use Rattle.tape.specs.Words.{steps_on}
use Rattle.tape.proofs.Counting.{steps_on-append}
use Rattle.client.specs.declared.Scene.{Scene}
use Rattle.client_frame.specs.declared.Rules.{Rules}
use Rattle.client_frame.specs.Frame.{frame_of}
use Rattle.client_skip.specs.Skip.{skipped_of}
use Rattle.session_laws.proofs.TraceStamps.{sides_apart}
use Rattle.session_laws.proofs.TraceFrames.{one_frame}
use Rattle.session_laws.proofs.TraceArrivals.{one_skip}
use Rattle.demand.specs.Events.{Event, FrameFrom, SkipFrom}
use Rattle.demand.specs.Demand.{opened_from, old_in, new_in, frames_in, distances_in, words_of, words_in, Ruled, Stepped, Steps, old_steps, new_steps}

-- ---- one frame

pub stepped : (r : Rules) (s : Scene) → Stepped r s
stepped r s = record { one = omega (arith, (one_frame r s).one); most = omega (arith, (one_frame r s).few) }

-- every frame of a trace
pub steps_law : (trace : List Event) → Steps trace
unfolding Steps
steps_law trace before r s after e = stepped r s

apart_in : (r : Rules) (s : Scene) → old_in r s + new_in r s ≡ 1
apart_in r s = sides_apart (opened_from r s).worlds

-- the step words of one side, by whether it is old or new
on_by : (a b : Bool) (o n x k : ℕ) → eqb o x ≡ a → eqb n x ≡ b → o + n ≡ 1 → x < 2 → (o ≡ x → k ≡ 1) → k ≡ cond a 1 0 + cond b k 0
on_by true true o n x k ea eb s h f = absurd (omega (arith, eqb-true o x ea, eqb-true n x eb))
on_by true false o n x k ea eb s h f = omega (arith, f (eqb-true o x ea))
on_by false true o n x k ea eb s h f = omega arith
on_by false false o n x k ea eb s h f = absurd (let p : o ≡ x → ⊥ = eqb-false o x ea in let q : n ≡ x → ⊥ = eqb-false n x eb in omega arith)

frame_on : (r : Rules) (s : Scene) (x : ℕ) → x < 2 → steps_on x (frame_of r s).words ≡ cond (eqb (old_in r s) x) 1 0 + cond (eqb (new_in r s) x)
    (steps_on x (frame_of r s).words) 0
frame_on r s x h =
    on_by (eqb (old_in r s) x) (eqb (new_in r s) x) (old_in r s) (new_in r s) x (steps_on x (frame_of r s).words) refl refl (apart_in r s) h
    (λ e. ap (λ y. steps_on y (frame_of r s).words) (sym e) ∙ (stepped r s).one)

-- each side is old or not
one_old : (o : ℕ) → o < 2 → cond (eqb o 0) 1 0 + cond (eqb o 1) 1 0 ≡ 1
one_old zero h = refl
one_old (suc zero) h = refl
one_old (suc (suc o)) h = absurd (omega arith)

one_new : (n : ℕ) (k : ℕ → ℕ) → n < 2 → cond (eqb n 0) (k 0) 0 + cond (eqb n 1) (k 1) 0 ≡ k n
one_new zero k h = omega arith
one_new (suc zero) k h = omega arith
one_new (suc (suc n)) k h = absurd (omega arith)

-- the steps of the side then new, from both sides
pub frame_new : (r : Rules) (s : Scene) →
    cond (eqb (new_in r s) 0) (steps_on 0 (frame_of r s).words) 0 + cond (eqb (new_in r s) 1) (steps_on 1 (frame_of r s).words) 0 ≡ steps_on (new_in r s)
    (frame_of r s).words
frame_new r s = one_new (new_in r s) (λ x. steps_on x (frame_of r s).words) (omega (arith, apart_in r s))

-- ---- along a trace

pub trace_on : (x : ℕ) (es : List Event) → x < 2 → steps_on x (words_in es) ≡ old_steps x es + new_steps x es
unfolding steps_on
trace_on x [] h = refl
trace_on x (FrameFrom r s ∷ es) h = omega (arith, steps_on-append x (frame_of r s).words (words_in es), frame_on r s x h, trace_on x es h)
trace_on x (SkipFrom s t ∷ es) h =
    steps_on-append x (skipped_of s t).words (words_in es) ∙ omega (arith, (one_skip s t).none x, trace_on x es h)

pub trace_old : (es : List Event) → old_steps 0 es + old_steps 1 es ≡ frames_in es
trace_old [] = refl
trace_old (FrameFrom r s ∷ es) = omega (arith, one_old (old_in r s) (omega (arith, apart_in r s)), trace_old es)
trace_old (SkipFrom s t ∷ es) = trace_old es

-- ---- traces that are joined

pub frames-append : (t u : List Event) → frames_in (t ++ u) ≡ frames_in t + frames_in u
frames-append [] u = omega arith
frames-append (FrameFrom r s ∷ t) u = omega (arith, frames-append t u)
frames-append (SkipFrom s x ∷ t) u = frames-append t u

pub distances_append : (t u : List Event) → distances_in (t ++ u) ≡ distances_in t + distances_in u
distances_append [] u = omega arith
distances_append (FrameFrom r s ∷ t) u = distances_append t u
distances_append (SkipFrom s x ∷ t) u = omega (arith, distances_append t u)

pub new-append : (x : ℕ) (t u : List Event) → new_steps x (t ++ u) ≡ new_steps x t + new_steps x u
new-append x [] u = omega arith
new-append x (FrameFrom r s ∷ t) u = omega (arith, new-append x t u)
new-append x (SkipFrom s y ∷ t) u = new-append x t u

pub old-append : (x : ℕ) (t u : List Event) → old_steps x (t ++ u) ≡ old_steps x t + old_steps x u
old-append x [] u = omega arith
old-append x (FrameFrom r s ∷ t) u = omega (arith, old-append x t u)
old-append x (SkipFrom s y ∷ t) u = old-append x t u

pub words_append : (t u : List Event) → words_in (t ++ u) ≡ words_in t ++ words_in u
words_append [] u = refl
words_append (e ∷ t) u = ap (λ ws. words_of e ++ ws) (words_append t u) ∙ sym (append_assoc (words_of e) (words_in t) (words_in u))

pub ruled_append : (r : Rules) (t u : List Event) → Ruled r t → Ruled r u → Ruled r (t ++ u)
ruled_append r [] u h k = k
ruled_append r (FrameFrom x s ∷ t) u h k = (h.0, ruled_append r t u h.1 k)
ruled_append r (SkipFrom s x ∷ t) u h k = ruled_append r t u h k
