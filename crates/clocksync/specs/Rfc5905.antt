-- RFC 5905, "Network Time Protocol Version 4", section 8: the offset theta of the server's clock to the client's, as an exact fraction. A fraction is a `Q`,
-- the number (p - n) / d. T1 is the client's time when it sent the request, T2 the server's time when that came, T3 the server's time when it sent the reply,
-- T4 the client's time when that came.
-- Definitions only. Assumes nothing.
use Rattle.std.specs.Prelude.{◌*◌}
use Rattle.std.proofs.Common.{mul-pos, lit<}
use Rattle.float_laws.specs.Fractions.{Q, add_q, sub_q}

-- half of a fraction
abbrev pub half_q : Q → Q
half_q a = record { p = a.p; n = a.n; d = a.d * 2; pos = mul-pos a.pos (lit< tt) }

-- theta = 1/2 × ((T2 - T1) + (T3 - T4))
unfoldable pub theta_of : Q → Q → Q → Q → Q
theta_of t1 t2 t3 t4 = half_q (add_q (sub_q t2 t1) (sub_q t3 t4))
