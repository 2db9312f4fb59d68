-- Document 01, the paragraph "Settings": the limits that refusal 1 is about, and the numbers that the Rust's `Config` derives, each operation IEEE 754's in the
-- Rust's order. Definitions only. Assumes nothing.
use Rattle.std.specs.Prelude.{ℕ, ◌+◌, ◌*◌, Bool, false, cond, ◌&&◌, ℤ, pos, int_le, nat_le, Float}
use Rattle.std.specs.Float.{fin, binary64}
use Rattle.std.specs.Float.Ieee.{mul, div, lt, of_int, to_unsigned}
use Rattle.timestamp.specs.Floats.{zero64, one64, two64, between, hour64, least64, sixty_four64}
use Rattle.timestamp.specs.Whole.{ceil_of, round_of}
use Rattle.timestamp.specs.FloatTimestamps.{stamp_of}
use Rattle.refusals.specs.Limits.{most_steps, most_lag_frames, most_needed}
use Rattle.settings.specs.declared.Settings.{Settings}
use Rattle.settings.specs.declared.Sampling.{Sampling}
use Rattle.settings.specs.Tweening.{known_of}

-- 60
abbrev pub sixty64 : Float
sixty64 = fin false 15 (pos 2)

-- ---- derived numbers

-- a lag in frames: the quotient rounded, a half away from zero, and saturating as a signed number of 16 bits
unfoldable pub lag_frames_of : Float → Float → ℤ
lag_frames_of lag timestep = stamp_of (round_of (div binary64 lag timestep))

-- how far one frame moves the blend weight
abbrev pub progress_of : Float → Float → Float
progress_of timestep blend = div binary64 timestep blend

-- the larger of x and 1; 1 for a NaN
abbrev pub at_least_one : Float → Float
at_least_one x = cond (lt one64 x) x one64

-- how many samples the mean leaves out at each end: needed × rate / 2, at least 1, rounded up. Samples and rates that pass give at most 16; of others 65,535 is
-- the most
unfoldable pub discard_of : ℕ → Float → ℕ
discard_of needed rate = to_unsigned 16 (ceil_of (at_least_one (div binary64 (mul binary64 (of_int binary64 (pos needed)) rate) two64)))

-- how many samples are stored: those needed, and those left out at both ends
abbrev pub store_of : ℕ → Float → ℕ
store_of needed rate = needed + discard_of needed rate * 2

-- the lag of the settings in frames
abbrev pub lag_frame_count_of : Settings → ℤ
lag_frame_count_of s = lag_frames_of s.lag s.timestep

-- the blend weight's progress a frame
abbrev pub blend_progress_of : Settings → Float
blend_progress_of s = progress_of s.timestep s.blend

-- what a mean of clock samples goes by
abbrev pub sampling_of : Settings → Sampling
sampling_of s = record { needed = s.needed; rate = s.rate }

-- the samples that the settings have the mean leave out at each end
abbrev pub samples_to_discard_of : Settings → ℕ
samples_to_discard_of s = discard_of s.needed s.rate

-- the samples that the settings have stored before a mean is taken
abbrev pub samples_to_store_of : Settings → ℕ
samples_to_store_of s = store_of s.needed s.rate

-- ---- the limits

-- timestep 1/1024 to 1 s; blend latency 1/1024 to 60; lag latency 0 to 60, its frame count at most 16,383; update maximum 0 to 64 × timestep, a product that is
-- exact
unfoldable pub seconds_pass : Settings → Bool
seconds_pass s =
    between least64 one64 s.timestep
    && between least64 sixty64 s.blend
    && between zero64 sixty64 s.lag
    && int_le (lag_frame_count_of s) (pos most_lag_frames)
    && between zero64 (mul binary64 sixty_four64 s.timestep) s.max

-- request period, deviation and skip threshold 0 to 3,600
unfoldable pub thresholds_pass : Settings → Bool
thresholds_pass s =
    between zero64 hour64 s.period
    && between zero64 hour64 s.deviation
    && between zero64 hour64 s.skip

-- samples needed 1 to 32; outlier rate 0 to 1
unfoldable pub samples_pass : ℕ → Float → Bool
samples_pass needed rate = nat_le 1 needed && nat_le needed most_needed && between zero64 one64 rate

-- the samples, and m 1 to 64
unfoldable pub counts_pass : Settings → Bool
counts_pass s = samples_pass s.needed s.rate && nat_le 1 s.m && nat_le s.m most_steps

-- every setting is within its limits, and the method is one of the three; else the call is refused with 1
unfoldable pub passes_of : Settings → Bool
passes_of s = seconds_pass s && thresholds_pass s && counts_pass s && known_of s.method
