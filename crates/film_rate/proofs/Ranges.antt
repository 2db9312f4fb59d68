-- The ranges of a span and a rate as inequalities, and the answer by whether they are kept. Assumes nothing.
use mathlib.Core.Path.{◌≡◌, refl}
use mathlib.Core.Bool.{Bool, true, false, cond, ◌&&◌}
use Prim.Native.Nat.{ℕ, ◌^◌, ◌≤◌}
use native.Mathlib.Omega.{arith}
use lib.Dec.{leb}
use borrow.Author.Tests.{leb-true, le-leb}
use Rattle.timestamp.proofs.Tests.{apart, both}
use Rattle.std.specs.Prelude.{Ok, Err}
use Rattle.refusals.specs.declared.Refusal.TheVariants.{Span}
use Rattle.film_rate.specs.declared.SpanFrames.{SpanFrames}
use Rattle.film_rate.specs.Spans.{rate_part_passes, span_passes, counted_of, span_frames_of}
use Rattle.film_rate.specs.Division.{InRange}

-- ---- what passes, and what is in range

-- a part of a rate
part_range : (n : ℕ) → rate_part_passes n ≡ true → (1 ≤ n) × (n ≤ 65535)
unfolding rate_part_passes
part_range n h = let a = apart (leb 1 n) (leb n 65535) h in (leb-true 1 n a.0, leb-true n 65535 a.1)

part_passes : (n : ℕ) → 1 ≤ n → n ≤ 65535 → rate_part_passes n ≡ true
unfolding rate_part_passes
part_passes n l m = both (le-leb 1 n l) (le-leb n 65535 m)

module _ (span p q : ℕ) where
  -- all of them
  pub in_range_lem : span_passes span p q ≡ true → InRange span p q
  unfolding span_passes
  in_range_lem h =
      let a = apart (leb span (2 ^ 40) && rate_part_passes p) (rate_part_passes q) h in
      let b = apart (leb span (2 ^ 40)) (rate_part_passes p) a.0 in
      let c = part_range p b.1 in
      let d = part_range q a.1 in
      record {
        span_to = omega (arith, leb-true span (2 ^ 40) b.0);
        p_from = omega (arith, c.0);
        p_to = omega (arith, c.1);
        q_from = omega (arith, d.0);
        q_to = omega (arith, d.1);
      }

  pub passes : InRange span p q → span_passes span p q ≡ true
  unfolding span_passes
  passes r = both (both (le-leb span (2 ^ 40) (omega arith)) (part_passes p (omega arith) (omega arith))) (part_passes q (omega arith) (omega arith))

  -- ---- the answer

  pub counted_answer : span_passes span p q ≡ true → span_frames_of span p q ≡ Ok (counted_of span p q)
  unfolding span_frames_of
  counted_answer h = rw h

  pub refused_answer : span_passes span p q ≡ false → span_frames_of span p q ≡ Err Span
  unfolding span_frames_of
  refused_answer h = rw h

  -- what is accepted passes
  pub accepted_passes : {a : SpanFrames} → span_frames_of span p q ≡ Ok a → span_passes span p q ≡ true
  unfolding span_frames_of
  accepted_passes {a} = go (span_passes span p q)
    where
      go : (t : Bool) → cond t (Ok (counted_of span p q)) (Err Span) ≡ Ok a → t ≡ true
      go true h = refl
      go false h = cc

  -- and its frames are counted
  pub accepted_is : {a : SpanFrames} → span_frames_of span p q ≡ Ok a → a ≡ counted_of span p q
  accepted_is h = let e = counted_answer (accepted_passes h) in cc
