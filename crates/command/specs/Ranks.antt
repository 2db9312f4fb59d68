-- Signed differences counted from 0, as the code compares them: document 01's signed difference under "src/timestamp.rs", plus 32,768.
-- Definitions only. Assumes nothing.
use Rattle.std.specs.Prelude.{ℕ, ◌+◌, ◌≤◌, ◌≡◌, Bool, not, ◌&&◌, ◌||◌, cond, eqb, leb, ltb, min, List, [], ◌∷◌, length}
use Rattle.refusals.specs.Limits.{buffer_room}
use Rattle.timestamp.specs.declared.Timestamp.{Timestamp}
use Rattle.timestamp.specs.Timestamps.{difference_of, sum_of}
use Rattle.command.specs.Entries.{Entry, stamp_in, plain_entry}
use Rattle.command.specs.declared.CommandBuffer.{CommandBuffer}
use Rattle.command.specs.Lists.{filter_b}
use Rattle.command.specs.Buffer.{Drained, held, laid, leaving, moved_of, taken_of}

-- the rank of a stamp around m: their signed difference, plus 32,768
unfoldable pub rank_of : ℕ → ℕ → ℕ
rank_of m s = sum_of (difference_of s m) 32768

-- the rank of a stamp around m is lo or more, and below hi
unfoldable pub spanned : ℕ → ℕ → ℕ → ℕ → Bool
spanned m lo hi s = leb lo (rank_of m s) && ltb (rank_of m s) hi

-- the same of an entry's stamp
abbrev pub rank_within : Timestamp → ℕ → ℕ → Entry → Bool
rank_within m lo hi e = spanned m.0 lo hi (stamp_in e)

-- a buffer that is laid out has room for the entries of another that are of such a rank
pub record HasRoom (a b : CommandBuffer) (m : Timestamp) (lo hi : ℕ) : Type 0 where
  pub whole : a ≡ laid (held a) a.timestamp
  pub room : length (held a) + length (filter_b (rank_within m lo hi) (held b)) ≤ buffer_room

-- the buffer of which exactly the entries of such a rank stay, and how many go
unfoldable pub sifted_of : CommandBuffer → Timestamp → ℕ → ℕ → Drained
sifted_of b m lo hi =
    let gone = filter_b (λ e. not (rank_within m lo hi e)) (held b) in
    record { buffer = leaving gone (filter_b (rank_within m lo hi) (held b)) b; count = length gone }

-- a buffer stays as it is at a step to the stamp t: nothing is due, and nothing leaves the range
unfoldable pub waits_of : CommandBuffer → Timestamp → Bool
waits_of b t = eqb (length (taken_of b t)) 0 && eqb (moved_of b t).dropped 0

-- for how many steps, the first of them to the stamp n, an entry is neither due nor out of range: till its frame is the next
unfoldable pub quiet_before : ℕ → Entry → ℕ
quiet_before n e = cond (leb (difference_of (stamp_in e) n) 16382) (difference_of (stamp_in e) n) 0

-- the least such number of these entries: with none of them, as many as an entry may wait
abbrev pub quiet_among : ℕ → List Entry → ℕ
quiet_among n [] = 16382
quiet_among n (e ∷ xs) = min (quiet_before n e) (quiet_among n xs)

-- for how many of the next steps a buffer stays as it is
unfoldable pub quiet_steps_of : CommandBuffer → ℕ
quiet_steps_of b = quiet_among (sum_of b.timestamp.0 1) (held b)

-- an entry of rank k is in range and not before rank lo, and has no spare bit set
unfoldable pub sound_rank : ℕ → ℕ → Entry → Bool
sound_rank k lo e = leb lo k && leb 16385 k && leb k 49150 && plain_entry e

-- an entry of rank k is before rank lo, or has a spare bit set
unfoldable pub breach : ℕ → ℕ → Entry → Bool
breach lo k e = ltb k lo || not (plain_entry e)
