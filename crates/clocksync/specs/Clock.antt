-- Document 01, "src/clocksync.rs", and from "Sound" what it says of the clock: the request timer, the clock messages of an inbox, and the one sample that an
-- update takes from the last of them. Definitions only. Assumes nothing.
use Rattle.std.specs.Prelude.{ℕ, ◌-◌, min, Bool, true, false, cond, not, ◌&&◌, ◌||◌, List, [], ◌∷◌, ◌++◌, leb, ltb, eqb, length, take, drop, replicate, Float}
use Rattle.std.specs.Prelude.{Option, Some, None, is_some}
use Rattle.std.specs.Float.{binary64}
use Rattle.std.specs.Float.Ieee.{lt, le, add, sub}
use Rattle.std.specs.Float.Ieee.Scale.{finite}
use Rattle.refusals.specs.Limits.{sample_room, most_samples}
use Rattle.settings.specs.declared.Settings.{Settings}
use Rattle.settings.specs.Settings.{samples_to_discard_of, samples_to_store_of}
use Rattle.timestamp.specs.Floats.{hour64, zero64, abs_of, sample_ok}
use Rattle.clocksync.specs.Offset.{offset_of}
use Rattle.mean.specs.Mean.{mean_of, samples_ok}
use Rattle.clocksync.specs.declared.Clock.{Clock}
use Rattle.clocksync.specs.declared.Ticked.{Ticked}
use Rattle.clocksync.specs.declared.Heard.{Heard}

-- ---- the samples of a clock

-- samples in the slots of a clock, the slots after them at +0.0
abbrev pub laid_out : List Float → List Float
laid_out xs = xs ++ replicate (sample_room - length xs) zero64

-- the samples that a clock holds, oldest first; of a clock that is not sound no more than `most_samples` count
unfoldable pub held_of : Clock → List Float
held_of c = take (min c.len most_samples) c.samples

-- a clock that has heard nothing
unfoldable pub new_of : Clock
new_of = record { offset = None; samples = laid_out []; len = 0; timer = zero64; id = None }

-- ---- the timer

-- the clock with another timer
abbrev pub timed_of : Clock → Float → Clock
timed_of c t = record { offset = c.offset; samples = c.samples; len = c.len; timer = t; id = c.id }

-- the timer takes the delta; above the period a request goes out and the timer is 0
unfoldable pub ticked_of : Clock → Float → Float → Ticked
ticked_of c period delta =
    let t = add binary64 c.timer delta in
    cond (lt period t) (record { clock = timed_of c zero64; request = true }) (record { clock = timed_of c t; request = false })

-- ---- clock messages

-- what is known before the first message of an inbox
abbrev pub listen_of : Clock → Heard
listen_of c = record { id = c.id; offset = None; other = false }

-- a message's number is another than the client's
abbrev pub other_of : Option ℕ → ℕ → Bool
other_of None n = false
other_of (Some m) n = not (eqb m n)

-- the client's number after a message: the first that came
abbrev pub first_of : Option ℕ → ℕ → Option ℕ
first_of None n = Some n
first_of (Some m) n = Some m

-- what is known after one message more, received at `seconds`: its offset is the latest
unfoldable pub heard_of : Float → Heard → ℕ → Float → Float → Heard
heard_of seconds h number send server =
    record { id = first_of h.id number; offset = Some (offset_of send server seconds); other = h.other || other_of h.id number }

-- ---- one sample more

-- the mean is further from the offset than the deviation
unfoldable pub deviates_of : Float → Float → Float → Bool
deviates_of mean offset deviation = lt deviation (abs_of (sub binary64 mean offset))

-- the offset after a mean was taken: the mean at the initial sync and where it deviates, else the old one
abbrev pub offset_after : Option Float → Float → Float → Option Float
offset_after None mean deviation = Some mean
offset_after (Some x) mean deviation = cond (deviates_of mean x deviation) (Some mean) (Some x)

-- the clock with the samples xs and an offset
abbrev pub sampled_of : Clock → Option Float → List Float → Clock
sampled_of c o xs = record { offset = o; samples = laid_out xs; len = length xs; timer = c.timer; id = c.id }

-- the clock whose samples have become xs: fewer than are stored stay; else their mean is taken and the oldest goes
unfoldable pub filled_of : Settings → Clock → List Float → Clock
filled_of s c xs =
    cond (ltb (length xs) (samples_to_store_of s))
    (sampled_of c c.offset xs)
    (sampled_of c (offset_after c.offset (mean_of (samples_to_discard_of s) xs) s.deviation) (drop 1 xs))

-- the clock after one sample more
abbrev pub added_of : Settings → Clock → Float → Clock
added_of s c x = filled_of s c (held_of c ++ (x ∷ []))

-- the same with the offset as it was
abbrev pub pushed_of : Settings → Clock → Float → Clock
pushed_of s c x =
    let a = added_of s c x in
    record { offset = c.offset; samples = a.samples; len = a.len; timer = a.timer; id = a.id }

-- the clock with another client number
abbrev pub named_of : Clock → Option ℕ → Clock
named_of c i = record { offset = c.offset; samples = c.samples; len = c.len; timer = c.timer; id = i }

-- the clock after one sample more, if there is one
abbrev pub sample_of : Settings → Clock → Option Float → Clock
sample_of s c None = c
sample_of s c (Some x) = added_of s c x

-- the clock after what the clock messages told
unfoldable pub settled_of : Settings → Clock → Heard → Clock
settled_of s c h = sample_of s (named_of c h.id) h.offset

-- ---- what an update reads off the clock

-- the server's time at a time of the client
abbrev pub server_seconds_of : Option Float → Float → Option Float
server_seconds_of None seconds = None
server_seconds_of (Some x) seconds = Some (add binary64 seconds x)

-- there is an offset, and the client's number is known
abbrev pub both_of : Option Float → Option ℕ → Bool
both_of o i = is_some o && is_some i

-- the clock is synced
abbrev pub ready_of : Clock → Bool
ready_of c = both_of c.offset c.id

-- ---- "Sound"

-- the request timer is finite and at most 3,600
unfoldable pub timer_ok : Float → Bool
timer_ok t = finite t && le t hour64

-- an offset, if there is one, is finite and within 2^33
abbrev pub offset_ok : Option Float → Bool
offset_ok None = true
offset_ok (Some x) = sample_ok x

-- samples fewer than stored, and no more than a clock can hold, and within 2^33; request timer finite and at most 3,600; offset within 2^33
unfoldable pub sound_clock : Settings → Clock → Bool
sound_clock s c =
    ltb c.len (samples_to_store_of s) && leb c.len most_samples && samples_ok (take c.len c.samples) && timer_ok c.timer && offset_ok c.offset
