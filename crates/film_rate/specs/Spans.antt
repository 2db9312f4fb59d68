-- The whole frames of a span of time at a rate of p over q frames a second, and what is left over: document 02, request 1. Quotient and remainder of naturals;
-- nothing is rounded. Definitions only. Assumes nothing.
use Rattle.std.specs.Prelude.{ℕ, ◌*◌, ◌/◌, ◌%◌, Bool, cond, ◌&&◌, leb, Result, Ok, Err}
use Rattle.refusals.specs.declared.Refusal.{Refusal}
use Rattle.refusals.specs.declared.Refusal.TheVariants.{Span}
use Rattle.refusals.specs.Limits.{longest_span, most_rate_part}
use Rattle.film_rate.specs.declared.SpanFrames.{SpanFrames}

-- ---- the ranges

-- a part of a rate is 1 to 65,535
unfoldable pub rate_part_passes : ℕ → Bool
rate_part_passes n = leb 1 n && leb n most_rate_part

-- a span is 0 to 2 ^ 40 microseconds, and each part of the rate is in its range
unfoldable pub span_passes : (span p q : ℕ) → Bool
span_passes span p q = leb span longest_span && rate_part_passes p && rate_part_passes q

-- ---- the answer

-- the microseconds of a second
abbrev pub second : ℕ
second = 1000000

-- a frame in parts: p of them are a microsecond
abbrev pub frame_parts : (q : ℕ) → ℕ
frame_parts q = q * second

-- a span in range: the whole frames that its parts make up, and the parts that are left over
abbrev pub counted_of : (span p q : ℕ) → SpanFrames
counted_of span p q = record { frames = span * p / frame_parts q; remainder = span * p % frame_parts q }

-- the frames of a span; refused where the span or the rate is out of range, which is the only check
unfoldable pub span_frames_of : (span p q : ℕ) → Result SpanFrames Refusal
span_frames_of span p q = cond (span_passes span p q) (Ok (counted_of span p q)) (Err Span)
