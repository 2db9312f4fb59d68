-- Tests in a row: what the code learns where it has tested a call's answer, `r` being the answer and `t` what the call's contract says it is, and what `&&` of
-- tests says of each. Assumes nothing.
use Rattle.std.proofs.Common.{◌≡◌, Bool, true, false, ◌&&◌, sym, refl, ◌∙◌}
use mathlib.Core.Bool.{false≢true}

-- the answer was no
pub fails : {r t : Bool} → r ≡ false → r ≡ t → t ≡ false
fails h e = sym e ∙ h

-- the answer was yes
pub holds : {r t : Bool} → r ≡ true → r ≡ t → t ≡ true
holds h e = sym e ∙ h

-- both of two tests hold where the row does
pub apart : (a b : Bool) → a && b ≡ true → (a ≡ true) × (b ≡ true)
apart true b h = (refl, h)
apart false b h = absurd (false≢true h)

-- and the row holds where both do
pub both : {a b : Bool} → a ≡ true → b ≡ true → a && b ≡ true
both p q = rw (p, q)

-- a test that fails decides the row
pub row_fails : {a r : Bool} (b : Bool) → r ≡ a → r ≡ false → false ≡ a && b
row_fails b e h = λ i. sym (fails h e) i && b

-- a test that holds leaves it to the others
pub row_holds : {a b r t : Bool} → r ≡ a → r ≡ true → t ≡ b → t ≡ a && b
row_holds {a} {b} e h g = g ∙ (λ i. sym (holds h e) i && b)

-- a row of tests, each by a call, in the order of the row
pub ruleset row-rules = (row_fails, row_holds)
