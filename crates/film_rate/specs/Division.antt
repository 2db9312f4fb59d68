-- What document 02's request 1 says of the frames of a span, sentence by sentence, as statements about their definition.
-- proofs/Division proves each under the same name in small letters. Definitions only. Assumes nothing.
use Prim.{⊥}
use Rattle.std.specs.Prelude.{◌≡◌, ℕ, ◌+◌, ◌*◌, ◌^◌, ◌<◌, ◌≤◌, Ok, Err}
use Rattle.refusals.specs.Refusals.{number_of}
use Rattle.refusals.specs.declared.Refusal.TheVariants.{Span}
use Rattle.film_rate.specs.declared.SpanFrames.{SpanFrames}
use Rattle.film_rate.specs.Spans.{counted_of, span_frames_of}

-- a span of 0 to 2 ^ 40 microseconds and a rate p over q, each 1 to 65,535
pub record InRange (span p q : ℕ) : Type 0 where
  pub span_to : span ≤ 2 ^ 40
  pub p_from : 1 ≤ p
  pub p_to : p ≤ 65535
  pub q_from : 1 ≤ q
  pub q_to : q ≤ 65535

-- span × p = frames × q × 1,000,000 + r, and r is below q × 1,000,000
pub record Divides (span p q frames r : ℕ) : Type 0 where
  pub sum : span * p ≡ frames * q * 1000000 + r
  pub below : r < q * 1000000

-- the frames and the remainder of an accepted span meet the equation and the bound
unfoldable pub SpanDivides : Type 0
SpanDivides = (span p q : ℕ) (a : SpanFrames) → span_frames_of span p q ≡ Ok a → Divides span p q a.frames a.remainder

-- and no other pair of numbers does
unfoldable pub SpanOnly : Type 0
SpanOnly =
    (span p q frames r : ℕ) (a : SpanFrames) → span_frames_of span p q ≡ Ok a → Divides span p q frames r → (frames ≡ a.frames) × (r ≡ a.remainder)

-- what is out of range is refused, under 31
unfoldable pub SpanRefused : Type 0
SpanRefused = (span p q : ℕ) → (InRange span p q → ⊥) → (span_frames_of span p q ≡ Err Span) × (number_of Span ≡ 31)

-- it is the only check: what is in range is accepted
unfoldable pub SpanAccepted : Type 0
SpanAccepted = (span p q : ℕ) → InRange span p q → span_frames_of span p q ≡ Ok (counted_of span p q)
