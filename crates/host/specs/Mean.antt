-- What the hosts' call for a mean answers: document 01, the last section, "Forms the Rust has and Rattle lacks", with refusals 1 and 8 of "Turned down by the
-- input". Definitions only. Assumes nothing.
use Rattle.std.specs.Prelude.{ℕ, zero, suc, ◌+◌, ◌*◌, ◌/◌, ◌%◌, ◌^◌, ◌≡◌, cond, ◌&&◌, List, [], ◌∷◌, ◌++◌, eqb, length, get_or, replicate, Float}
use Rattle.std.specs.Prelude.{Result, Ok, Err}
use Rattle.std.specs.Float.{binary64}
use Rattle.std.specs.Float.Ieee.{of_bits, to_bits}
use Rattle.refusals.specs.declared.Refusal.{Refusal}
use Rattle.refusals.specs.declared.Refusal.TheVariants.{Settings, Samples}
use Rattle.refusals.specs.Refusals.{number_of}
use Rattle.settings.specs.Settings.{samples_pass, store_of, discard_of}
use Rattle.mean.specs.Mean.{mean_of, samples_ok}

-- ---- samples as bytes, 8 each, low byte first

-- the number that 8 bytes make, the first being the lowest
abbrev pub little_of : ℕ → ℕ → ℕ → ℕ → ℕ → ℕ → ℕ → ℕ → ℕ
little_of a b c d e f g h = a + 256 * (b + 256 * (c + 256 * (d + 256 * (e + 256 * (f + 256 * (g + 256 * h))))))

-- the number in the 8 bytes at a place
abbrev pub word_at : List ℕ → ℕ → ℕ
word_at s at =
    little_of (get_or s at 0) (get_or s (at + 1) 0) (get_or s (at + 2) 0) (get_or s (at + 3) 0) (get_or s (at + 4) 0) (get_or s (at + 5) 0)
    (get_or s (at + 6) 0) (get_or s (at + 7) 0)

-- the first n samples of bytes, in their order: each the binary64 of its bits, the one NaN where they are a NaN's
unfoldable pub floats_of : List ℕ → ℕ → List Float
floats_of s zero = []
floats_of s (suc n) = floats_of s n ++ (of_bits binary64 (word_at s (8 * n)) ∷ [])

-- the 8 bytes of a number, the lowest first
abbrev pub bytes_of : ℕ → List ℕ
bytes_of n =
    n % 256
    ∷ n / 256 % 256
    ∷ n / 256 ^ 2 % 256
    ∷ n / 256 ^ 3 % 256
    ∷ n / 256 ^ 4 % 256
    ∷ n / 256 ^ 5 % 256
    ∷ n / 256 ^ 6 % 256
    ∷ n / 256 ^ 7 % 256
    ∷ []

-- ---- the answer

-- the mean of samples, d of them dropped at each extreme; refused where one is not finite or beyond 2 ^ 33
abbrev pub judged_mean : ℕ → List Float → Result Float Refusal
judged_mean d xs = cond (samples_ok xs) (Ok (mean_of d xs)) (Err Samples)

-- refused for the samples: bytes that are not 8 times the samples to store, an answer buffer (of `room` bytes) that is not of 8, or a sample; else their mean
unfoldable pub mean_of_stored : ℕ → ℕ → List ℕ → ℕ → Result Float Refusal
mean_of_stored store discard s room = cond (eqb (length s) (8 * store) && eqb room 8) (judged_mean discard (floats_of s store)) (Err Samples)

-- refused for the settings where needed or rate is out of range; else what the samples give
unfoldable pub mean_answer_of : ℕ → Float → List ℕ → ℕ → Result Float Refusal
mean_answer_of needed rate s room =
    cond (samples_pass needed rate) (mean_of_stored (store_of needed rate) (discard_of needed rate) s room) (Err Settings)

-- document 01's number for each answer
abbrev pub mean_number_of : Result Float Refusal → ℕ
mean_number_of (Ok x) = 0
mean_number_of (Err e) = number_of e

-- the answer buffer for each answer: the mean's 8 bytes, or as many zeros as it has bytes
abbrev pub buffer_of : ℕ → Result Float Refusal → List ℕ
buffer_of room (Ok x) = bytes_of (to_bits binary64 x)
buffer_of room (Err e) = replicate room 0

-- the call returns the answer's number and leaves the answer's bytes in the buffer, of which there were `room` before
pub record AnswersMean (needed : ℕ) (rate : Float) (s : List ℕ) (room r : ℕ) (buffer : List ℕ) : Type 0 where
  -- what it returns
  pub number : r ≡ mean_number_of (mean_answer_of needed rate s room)
  -- every byte of the buffer
  pub bytes : buffer ≡ buffer_of room (mean_answer_of needed rate s room)
