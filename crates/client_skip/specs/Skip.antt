-- A skip to another stamp: document 01, "src/client.rs".
-- Definitions only. Assumes nothing.
use Rattle.std.specs.Ordering.{is_lt}
use Rattle.std.specs.Prelude.{ℕ, Bool, true, false, cond, eqb}
use Rattle.timestamp.specs.declared.Timestamp.{Timestamp}
use Rattle.timestamp.specs.Timestamps.{order_of}
use Rattle.command.specs.Buffer.{emptied_of}
use Rattle.simulation.specs.World.{reset_of}
use Rattle.client.specs.declared.Scene.{Scene}
use Rattle.client.specs.Sides.{new_side_of, old_side_of, world_of, with_base, with_worlds, old_stamp_of, new_stamp_of, Played, still, and_then, done_at}

-- the world of a side is reset to a stamp
unfoldable pub reset_side : Scene → ℕ → Timestamp → Played
reset_side s side t = done_at s side (reset_of (world_of s.worlds side) t side)

-- the new world goes along where its stamp is the old one's
unfoldable pub reset_along : Scene → Timestamp → Played
reset_along s t = cond (eqb (new_stamp_of s.worlds).0 (old_stamp_of s.worlds).0) (reset_side s (new_side_of s.worlds) t) (still s)

-- a skip from the stamp `old` to the stamp t goes back
unfoldable pub skips_back : Timestamp → Timestamp → Bool
skips_back t old = is_lt (order_of t.0 old.0)

-- a skip back empties the base
abbrev pub emptied_base : Bool → Scene → Scene
emptied_base true s = with_worlds s (with_base s.worlds (emptied_of s.worlds.base))
emptied_base false s = s

-- both worlds after a skip to a stamp: equal stamps move together
unfoldable pub reset_both : Scene → Timestamp → Played
reset_both s t = and_then (reset_along s t) (λ u. reset_side u (old_side_of s.worlds) t)

-- a skip to a stamp
unfoldable pub skipped_of : Scene → Timestamp → Played
skipped_of s t = record { scene = emptied_base (skips_back t (old_stamp_of s.worlds)) (reset_both s t).scene; words = (reset_both s t).words }
