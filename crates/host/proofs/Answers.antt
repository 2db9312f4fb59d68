-- What hosts are told of a span that is refused. Assumes nothing.
use Rattle.std.proofs.Common.{ap}
use Rattle.film_rate.specs.Division.{SpanRefused}
use Rattle.film_rate.proofs.Division.{span_refused}
use Rattle.host.specs.Spans.{host_span_of, HostSpanRefused}

-- a span or a rate out of range
pub host_span_refused : HostSpanRefused
unfolding HostSpanRefused SpanRefused
host_span_refused span p q n = let e = ap host_span_of (span_refused span p q n).0 in (ap (λ a. a.refusal) e, ap (λ a. a.frames) e, ap (λ a. a.remainder) e)
