-- The offset of a clock message against RFC 5905: without rounding the Rust's operations give its offset with T2 = T3, and the code's float is what they give
-- with each result rounded. Assumes nothing.
use mathlib.Core.Path.{◌≡◌, refl, ap}
use Prim.Native.Nat.{ℕ, ◌+◌, ◌*◌, ◌≤◌, ◌^◌}
use native.Mathlib.Nat.{mul-le-mul_right}
use native.Mathlib.Omega.{arith}
use lib.Dec.{T, lit<}
use lib.Ieee.{Float, binary64, add, sub, div}
use lib.Ieee.Scale.{finite}
use Rattle.float_laws.specs.Fractions.{Q, Le, Eqv, add_q, sub_q, val, Same, rnd, round_q}
use Rattle.float_laws.specs.Bounds.{Within}
use Rattle.float_laws.proofs.Value.{q_le_trans, le_to_val}
use Rattle.float_laws.proofs.Order.{same_trans, between_finite}
use Rattle.float_laws.proofs.Round.{rnd_same}
use Rattle.float_laws.proofs.Operations.{div_q, add_is_rounded, sub_is_rounded, div_is_rounded}
use Rattle.float_laws.proofs.Within.{add_within, sub_within, div_within}
use Rattle.clocksync.specs.Rfc5905.{half_q, theta_of}
use Rattle.clocksync.specs.Offset.{offset_of, offset_by}
use Rattle.timestamp.specs.Floats.{two64}

-- ---- without rounding

-- a fraction and its multiple are one number
scaled : (P N D P' N' D' k : ℕ) → P' ≡ P * k → N' ≡ N * k → D' ≡ D * k → (P * D' + N' * D ≤ P' * D + N * D') × (P' * D + N * D' ≤ P * D' + N' * D)
scaled P N D P' N' D' k p n d =
    let a = ap (λ (z : ℕ). P * z) d in
    let b = ap (λ (z : ℕ). z * D) n in
    let c = ap (λ (z : ℕ). z * D) p in
    let e = ap (λ (z : ℕ). N * z) d in
    (omega arith, omega arith)

-- without rounding, the operations give RFC 5905's offset, the server's time standing for T2 and T3
pub exact_offset : (send server received : Q) → Eqv (offset_by (λ q. q) send server received) (theta_of send server server received)
unfolding offset_by theta_of
exact_offset a s b = go a.p a.n a.d s.p s.n s.d b.p b.n b.d
  where
    go : (fp fn fd sp sn sd bp bn bd : ℕ) →
        ((sp * (fd * bd * 2) + (fn * bd + bn * fd) * sd) * (sd * fd * (sd * bd) * 2)
        + ((sn * fd + fp * sd) * (sd * bd) + (sn * bd + bp * sd) * (sd * fd)) * (sd * (fd * bd * 2)) ≤
        ((sp * fd + fn * sd) * (sd * bd) + (sp * bd + bn * sd) * (sd * fd)) * (sd * (fd * bd * 2)) + (sn * (fd * bd * 2) + (fp * bd + bp * fd) * sd)
        * (sd * fd * (sd * bd) * 2))
        × (((sp * fd + fn * sd) * (sd * bd) + (sp * bd + bn * sd) * (sd * fd)) * (sd * (fd * bd * 2)) + (sn * (fd * bd * 2) + (fp * bd + bp * fd) * sd)
        * (sd * fd * (sd * bd) * 2) ≤ (sp * (fd * bd * 2) + (fn * bd + bn * fd) * sd) * (sd * fd * (sd * bd) * 2)
        + ((sn * fd + fp * sd) * (sd * bd) + (sn * bd + bp * sd) * (sd * fd)) * (sd * (fd * bd * 2)))
    go fp fn fd sp sn sd bp bn bd =
        scaled (sp * (fd * bd * 2) + (fn * bd + bn * fd) * sd) (sn * (fd * bd * 2) + (fp * bd + bp * fd) * sd) (sd * (fd * bd * 2))
        ((sp * fd + fn * sd) * (sd * bd) + (sp * bd + bn * sd) * (sd * fd)) ((sn * fd + fp * sd) * (sd * bd) + (sn * bd + bp * sd) * (sd * fd))
        (sd * fd * (sd * bd) * 2) sd
        (omega arith) (omega arith) (omega arith)

-- ---- with each result rounded

-- a finite float that compares equal to a rounding has its number
value_of : (x : Float) (q : Q) → T (finite x) → Same x (rnd binary64 q) → Eqv (val x) (round_q q)
value_of x q p s =
    let f = between_finite x (rnd binary64 q) x p p s.0 s.1 in
    (le_to_val x (rnd binary64 q) p f s.0, le_to_val (rnd binary64 q) x f p s.1)

-- the difference from one number does not depend on how the other is written
less_right : (a b c : Q) → Le b c → Le (sub_q a c) (sub_q a b)
less_right a b c h = go a.p a.n a.d b.p b.n b.d c.p c.n c.d (mul-le-mul_right (a.d * a.d) h)
  where
    go : (p n d q m e r k g : ℕ) → (q * g + k * e) * (d * d) ≤ (r * e + m * g) * (d * d)
        → (p * g + k * d) * (d * e) + (n * e + q * d) * (d * g) ≤ (p * e + m * d) * (d * g) + (n * g + r * d) * (d * e)
    go p n d q m e r k g h = omega arith

half_same : (a b : Q) → Le a b → Le (half_q a) (half_q b)
half_same a b h = go a.p a.n a.d b.p b.n b.d h
  where
    go : (p n d q m e : ℕ) → p * e + m * d ≤ q * d + n * e → p * (e * 2) + m * (d * 2) ≤ q * (d * 2) + n * (e * 2)
    go p n d q m e h = omega arith

-- a quotient by 2 is half
quotient_half : (a : Q) → Eqv (div_q a two64 tt) (half_q a)
quotient_half a = go a.p a.n a.d
  where
    go : (p n d : ℕ) → (p * 1 * (d * 2) + n * (1 * 2 * d) ≤ p * (1 * 2 * d) + n * 1 * (d * 2))
        × (p * (1 * 2 * d) + n * 1 * (d * 2) ≤ p * 1 * (d * 2) + n * (1 * 2 * d))
    go p n d = (omega arith, omega arith)

-- of times within 2^32, the code's offset is what the operations give on the exact times, each result rounded to binary64
pub rounded_offset : (send server received : Float) → Within send (2 ^ 32) → Within server (2 ^ 32) → Within received (2 ^ 32)
    → Eqv (val (offset_of send server received)) (offset_by round_q (val send) (val server) (val received))
unfolding offset_of offset_by
rounded_offset a s b A S B =
    let t = add binary64 a b in
    let h = div binary64 t two64 in
    let o = sub binary64 s h in
    let wt = add_within a b (2 ^ 32) (2 ^ 32) (lit< tt) A B in
    let wh = div_within t two64 2 (2 ^ 32) (lit< tt) (lit< tt) (refl, refl) wt in
    let wo = sub_within s h (2 ^ 32) (2 ^ 32) (lit< tt) S wh in
    let q1 = add_q (val a) (val b) in
    let e1 : Eqv (val t) (round_q q1) = value_of t q1 wt.0 (add_is_rounded binary64 a b A.0 B.0) in
    let q2 = half_q (round_q q1) in
    let d2 = div_q (val t) two64 tt in
    let k2 = quotient_half (val t) in
    let g2 : Eqv d2 q2 = (
      q_le_trans d2 (half_q (val t)) q2 k2.0 (half_same (val t) (round_q q1) e1.0),
      q_le_trans q2 (half_q (val t)) d2
          (half_same (round_q q1) (val t) e1.1) k2.1,
    ) in
    let e2 : Eqv (val h) (round_q q2) = value_of h q2 wh.0 (same_trans h (rnd binary64 d2) (rnd binary64 q2)
    (div_is_rounded binary64 t two64 wt.0 tt) (rnd_same binary64 d2 q2 g2)) in
    let q3 = sub_q (val s) (round_q q2) in
    let d3 = sub_q (val s) (val h) in
    let g3 : Eqv d3 q3 = (less_right (val s) (round_q q2) (val h) e2.1, less_right (val s) (val h) (round_q q2) e2.0) in
    value_of o q3 wo.0 (same_trans o (rnd binary64 d3) (rnd binary64 q3) (sub_is_rounded binary64 s h S.0 wh.0) (rnd_same binary64 d3 q3 g3))
