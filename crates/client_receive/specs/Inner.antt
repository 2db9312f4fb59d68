-- What inner functions of the code give. No contract of a call cites this module.
-- Definitions only. Assumes nothing.
use Rattle.std.specs.Prelude.{◌≡◌, Bool, true, false, ◌||◌}
use Rattle.command.specs.declared.Outcome.{Outcome}
use Rattle.command.specs.Buffer.{full_by}
use Rattle.command.specs.Soundness.{known_of}
use Rattle.client.specs.declared.ClientWorldSimulations.{ClientWorldSimulations}
use Rattle.client_receive.specs.declared.Tidy.{Tidy}

-- one of three insertions found its buffer full
unfoldable pub any_full : Outcome → Outcome → Outcome → Bool
any_full b l r = full_by b || (full_by l || full_by r)

-- of no buffer it is known that it is tidy
abbrev pub none_known : Tidy
none_known = record { base = false; left = false; right = false }

-- each of three buffers is tidy where it is known to be
pub record Known (k : Tidy) (w : ClientWorldSimulations) : Type 0 where
  pub base : known_of k.base w.base ≡ true
  pub left : known_of k.left w.left.commands ≡ true
  pub right : known_of k.right w.right.commands ≡ true
