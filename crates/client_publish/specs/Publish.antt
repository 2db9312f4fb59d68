-- What a frame publishes: document 01, "Inbox and tape", out words 4 to 7.
-- Definitions only. Assumes nothing.
use Rattle.std.specs.Prelude.{ℕ, Bool, false, cond, [], ◌∷◌, negsuc, Float, Option, Some, None}
use Rattle.std.specs.Float.{fin, binary64}
use Rattle.std.specs.Float.Ieee.{sub, lt, eq}
use Rattle.timestamp.specs.Floats.{zero64, one64, abs_of}
use Rattle.timestamp.specs.declared.Timestamp.{Timestamp}
use Rattle.tape.specs.Words.{publish_word, mix_words, none_word}
use Rattle.client.specs.declared.Scene.{Scene}
use Rattle.client.specs.Sides.{new_side_of, old_side_of, world_of, with_published, with_worlds, world_stamp_of, old_stamp_of, Played}

-- a state is published: the one before it is the last one, and the displayed time stays
abbrev pub with_state : Scene → Option Timestamp → Scene
with_state s l = with_worlds s (with_published s.worlds (record { before = s.worlds.published.after; after = l; time = s.worlds.published.time }))

-- nothing is published
unfoldable pub published_none : Scene → Played
published_none s = record { scene = with_state s None; words = none_word ∷ [] }

-- the world of a side is published
unfoldable pub published_side : Scene → ℕ → Played
published_side s side = record { scene = with_state s (Some (world_stamp_of (world_of s.worlds side))); words = publish_word side ∷ [] }

-- a mix is published, with a weight
unfoldable pub published_mix : Scene → Float → Played
published_mix s t = record { scene = with_state s (Some (old_stamp_of s.worlds)); words = mix_words t }

-- the old world is published, or nothing where it is not initialised
unfoldable pub published_old : Scene → Played
published_old s = cond (world_of s.worlds (old_side_of s.worlds)).init (published_side s (old_side_of s.worlds)) (published_none s)

-- a weight is less than 2 ^ -52 from 1
unfoldable pub near_one : Float → Bool
near_one t = lt (abs_of (sub binary64 t one64)) (fin false 1 (negsuc 51))

-- both worlds are initialised: weight 0 gives old, weight near 1 gives new, any other a mix
unfoldable pub published_both : Scene → Played
published_both s =
    cond (eq s.worlds.weight zero64)
    (published_side s (old_side_of s.worlds))
    (cond (near_one s.worlds.weight) (published_side s (new_side_of s.worlds)) (published_mix s s.worlds.weight))

-- a blended publish; with old uninitialised it gives new, or nothing if new is too
unfoldable pub published_blended : Scene → Played
published_blended s =
    cond (world_of s.worlds (old_side_of s.worlds)).init
    (published_both s)
    (cond (world_of s.worlds (new_side_of s.worlds)).init (published_side s (new_side_of s.worlds)) (published_none s))
