-- The limits of documents 01 and 02 that are whole numbers, and those of a clock's samples, which follow from them. Those that are floats stand in timestamp
-- (Floats) and, where they are of settings alone, in settings.
-- Definitions only. Assumes nothing.
use Rattle.std.specs.Prelude.{ℕ, ◌^◌}

-- an inbox has at most so many words
abbrev pub most_words : ℕ
most_words = 4096

-- a handle is below this: it has 24 bits
abbrev pub handle_room : ℕ
handle_room = 2 ^ 24

-- a buffer holds at most so many commands
abbrev pub buffer_room : ℕ
buffer_room = 64

-- an update plays at most so many frames
abbrev pub most_frames : ℕ
most_frames = 65

-- m, the catch-up steps of a frame, is at most this
abbrev pub most_steps : ℕ
most_steps = 64

-- the samples that a mean needs are at most so many
abbrev pub most_needed : ℕ
most_needed = 32

-- a clock has so many slots for samples: as many as settings that pass have it store, 32 needed and 16 to leave out at each end
abbrev pub sample_room : ℕ
sample_room = 64

-- between calls it holds at most so many: with one more their mean is taken
abbrev pub most_samples : ℕ
most_samples = 63

-- the lag is at most so many frames
abbrev pub most_lag_frames : ℕ
most_lag_frames = 16383

-- a span whose frames are asked for has at most so many microseconds
abbrev pub longest_span : ℕ
longest_span = 2 ^ 40

-- each of the two parts of a frame rate is at most this
abbrev pub most_rate_part : ℕ
most_rate_part = 65535
