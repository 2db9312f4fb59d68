-- The frames of a span meet document 02's equation and bound, and no other pair of numbers does: the statements of specs/Division. Assumes nothing.
use mathlib.Core.Path.{◌≡◌, refl, sym, ap, ◌∙◌}
use mathlib.Core.Bool.{Bool, true, false}
use Prim.Native.Nat.{ℕ, ◌+◌, ◌*◌, ◌/◌, ◌%◌, ◌<◌}
use native.Mathlib.Nat.{div-add-mod', mod-lt, mul_assoc}
use native.Mathlib.Omega.{arith}
use lib.Arith.{digits_div, digits_mod}
use Rattle.std.specs.Prelude.{Err}
use Rattle.refusals.specs.Refusals.{number_of}
use Rattle.refusals.specs.declared.Refusal.TheVariants.{Span}
use Rattle.film_rate.specs.Spans.{span_passes, span_frames_of}
use Rattle.film_rate.specs.Division.{SpanDivides, SpanOnly, SpanRefused, SpanAccepted}
use Rattle.film_rate.proofs.Ranges.{in_range_lem, passes, counted_answer, refused_answer, accepted_passes, accepted_is}

-- a number by its quotient and its remainder
divided : (n q : ℕ) → n ≡ n / (q * 1000000) * q * 1000000 + n % (q * 1000000)
divided n q = sym (div-add-mod' n (q * 1000000)) ∙ ap (λ (x : ℕ). x + n % (q * 1000000)) (sym (mul_assoc (n / (q * 1000000)) q 1000000))

-- the frames and the remainder of an accepted span
pub span_divides : SpanDivides
unfolding SpanDivides
span_divides span p q a h =
    let t = accepted_passes span p q h in
    let l : 0 < q * 1000000 = omega (arith, (in_range_lem span p q t).q_from) in
    let e = accepted_is span p q h in
    let g = ap (λ c. c.remainder) e in
    let b = mod-lt (span * p) l in
    record { sum = omega (arith, divided (span * p) q, ap (λ c. c.frames * q) e, g, b); below = omega (arith, g, b) }

-- no other pair
pub span_only : SpanOnly
unfolding SpanOnly
span_only span p q f r a h d =
    let e = accepted_is span p q h in
    let s : span * p ≡ f * (q * 1000000) + r = d.sum ∙ ap (λ (x : ℕ). x + r) (mul_assoc f q 1000000) in
    let b : r < q * 1000000 = omega (arith, d.below) in (
      sym (digits_div f b) ∙ ap (λ (x : ℕ). x / (q * 1000000)) (sym s) ∙ sym (ap (λ c. c.frames) e),
      sym (digits_mod f b) ∙ ap (λ (x : ℕ). x % (q * 1000000)) (sym s) ∙ sym (ap (λ c. c.remainder) e),
    )

-- what is out of range is refused
pub span_refused : SpanRefused
unfolding SpanRefused
span_refused span p q n = go (span_passes span p q) refl
  where
    go : (t : Bool) → span_passes span p q ≡ t → (span_frames_of span p q ≡ Err Span) × (number_of Span ≡ 31)
    go true h = absurd (n (in_range_lem span p q h))
    go false h = (refused_answer span p q h, refl)

-- what is in range is accepted
pub span_accepted : SpanAccepted
unfolding SpanAccepted
span_accepted span p q r = counted_answer span p q (passes span p q r)
