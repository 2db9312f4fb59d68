-- Exact fractions, and the number of a float: what IEEE 754's operations round, and what RFC 5905's offset is a fraction of.
-- Definitions only. Assumes nothing.
use Rattle.std.specs.Prelude.{ℕ, ◌+◌, ◌-◌, ◌*◌, ◌≤◌, ◌<◌, Bool, true, false, cond, T, ltb, Float}
use Rattle.std.proofs.Common.{mul-pos}
use Rattle.std.specs.Float.{nan, inf, fin, Format, binary64}
use Rattle.std.specs.Float.Ieee.{up, le, round}
use Rattle.std.specs.Float.Ieee.Positive.{den, den_pos}

-- ---- fractions

-- The number (p - n) / d. A negative number has its size in n.
pub record Q : Type 0 where
  pub p : ℕ
  pub n : ℕ
  pub d : ℕ
  pub pos : 0 < d

-- a is at most b.
abbrev pub Le : Q → Q → Type 0
Le a b = a.p * b.d + b.n * a.d ≤ b.p * a.d + a.n * b.d

-- a is less than b.
abbrev pub Lt : Q → Q → Type 0
Lt a b = a.p * b.d + b.n * a.d < b.p * a.d + a.n * b.d

-- a and b are one number.
abbrev pub Eqv : Q → Q → Type 0
Eqv a b = Le a b × Le b a

-- The fraction a / c, or -a / c where the sign is `true`.
abbrev pub sgn : Bool → ℕ → (c : ℕ) → 0 < c → Q
sgn false a c C = record { p = a; n = 0; d = c; pos = C }
sgn true a c C = record { p = 0; n = a; d = c; pos = C }

-- The exact sum.
abbrev pub add_q : Q → Q → Q
add_q a b = record { p = a.p * b.d + b.p * a.d; n = a.n * b.d + b.n * a.d; d = a.d * b.d; pos = mul-pos a.pos b.pos }

-- The exact negative.
abbrev pub neg_q : Q → Q
neg_q a = record { p = a.n; n = a.p; d = a.d; pos = a.pos }

-- The exact difference.
abbrev pub sub_q : Q → Q → Q
sub_q a b = add_q a (neg_q b)

-- The exact product.
abbrev pub mul_q : Q → Q → Q
mul_q a b = record { p = a.p * b.p + a.n * b.n; n = a.p * b.n + a.n * b.p; d = a.d * b.d; pos = mul-pos a.pos b.pos }

-- ---- the number of a float

-- The numerator of a finite float that has a positive sign, in units of 1 / den; 0 for any other float.
abbrev pub pnum : Float → ℕ
pnum nan = 0
pnum (inf s) = 0
pnum (fin true m e) = 0
pnum (fin false m e) = m * up e

-- The numerator of a finite float that has a negative sign, in units of 1 / den; 0 for any other float.
abbrev pub nnum : Float → ℕ
nnum nan = 0
nnum (inf s) = 0
nnum (fin true m e) = m * up e
nnum (fin false m e) = 0

-- The number of a finite float; 0 for a NaN and for an infinity.
abbrev pub val : Float → Q
val x = record { p = pnum x; n = nnum x; d = den x; pos = den_pos x }

-- x and y compare equal: they are one number, up to the sign of a zero, or one infinity.
abbrev pub Same : Float → Float → Type 0
Same x y = T (le x y) × T (le y x)

-- ---- rounding

-- The fraction rounded to the format, to nearest with ties to even; an infinity where that overflows.
unfoldable pub rnd : Format → Q → Float
rnd f a = cond (ltb a.p a.n) (round f true (a.n - a.p) a.d) (round f false (a.p - a.n) a.d)

-- The number of a fraction rounded to binary64.
abbrev pub round_q : Q → Q
round_q q = val (rnd binary64 q)
