-- What the hosts' call for the frames of a span returns: film_rate's answer, laid out for C. Definitions only. Assumes nothing.
use Rattle.std.specs.Prelude.{◌≡◌, ℕ, Result, Ok, Err}
use Rattle.refusals.specs.declared.Refusal.{Refusal}
use Rattle.refusals.specs.Refusals.{number_of}
use Rattle.film_rate.specs.declared.SpanFrames.{SpanFrames}
use Rattle.film_rate.specs.Spans.{span_frames_of}
use Rattle.film_rate.specs.Division.{InRange}
use Rattle.host.specs.declared.HostSpanFrames.{HostSpanFrames}

-- the frames, the remainder and 0; or zeros and the number of the refusal. The spare word is 0
abbrev pub host_span_of : Result SpanFrames Refusal → HostSpanFrames
host_span_of (Ok a) = record { frames = a.frames; remainder = a.remainder; refusal = 0; spare = 0 }
host_span_of (Err e) = record { frames = 0; remainder = 0; refusal = number_of e; spare = 0 }

-- what is out of range is refused with 31; frames and remainder are 0 then
unfoldable pub HostSpanRefused : Type 0
HostSpanRefused =
    (span p q : ℕ) → (InRange span p q → ⊥) →
    ((host_span_of (span_frames_of span p q)).refusal ≡ 31) × ((host_span_of (span_frames_of span p q)).frames ≡ 0)
    × ((host_span_of (span_frames_of span p q)).remainder ≡ 0)
