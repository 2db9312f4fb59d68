-- The floats of samples' bytes are those of their chunks of 8, and the room takes them all. Assumes nothing.
use Rattle.std.proofs.Common.{◌≡◌, refl, sym, ap, ◌∙◌, List, [], ◌∷◌, ◌++◌, ℕ, zero, suc, ◌+◌, ◌*◌, ◌/◌, ◌≤◌, length, get_or, take, drop, map, arith}
use Rattle.std.specs.Simd.{first_chunks}
use lib.Ieee.{binary64, of_bits}
use lib.ListN.{length-map}
use lib.Seq.{get_or-drop, get_or-take, take_all}
use Rattle.refusals.specs.Limits.{sample_room}
use Rattle.settings.proofs.Few.{store_range}
use Rattle.host.specs.Mean.{little_of, word_at, floats_of}
use Rattle.host.specs.Inner.{float_in}

-- a byte after the first 8, and the word at such a place
byte_after : (s : List ℕ) (i j : ℕ) → 8 + i ≡ j → get_or (drop 8 s) i 0 ≡ get_or s j 0
byte_after s i j e = get_or-drop 8 s i 0 ∙ ap (λ (k : ℕ). get_or s k 0) e

word_after : (s : List ℕ) (i j : ℕ) → 8 + i ≡ j → word_at (drop 8 s) i ≡ word_at s j
word_after s i j e = λ k. little_of (byte_after s i j e k) (b 1 k) (b 2 k) (b 3 k) (b 4 k) (b 5 k) (b 6 k) (b 7 k)
  where
    b : (n : ℕ) → get_or (drop 8 s) (i + n) 0 ≡ get_or s (j + n) 0
    b n = byte_after s (i + n) (j + n) (omega arith)

-- the float of the first 8 bytes
front_float : (s : List ℕ) → float_in (take 8 s) ≡ of_bits binary64 (word_at s 0)
front_float s = grind (arith, get_or-take)

-- the first float, and the others
floats_first : (s : List ℕ) (n : ℕ) → of_bits binary64 (word_at s 0) ∷ floats_of (drop 8 s) n ≡ floats_of s (suc n)
unfolding floats_of
floats_first s zero = refl
floats_first s (suc n) = λ k. floats_first s n k ++ (of_bits binary64 (word_after s (8 * n) (8 * suc n) (omega arith) k) ∷ [])

-- the floats of n samples are those of the first n chunks
chunk_floats : (s : List ℕ) (n : ℕ) → map float_in (first_chunks 8 n s) ≡ floats_of s n
unfolding floats_of
chunk_floats s zero = refl
chunk_floats s (suc n) = (λ k. front_float s k ∷ chunk_floats (drop 8 s) n k) ∙ floats_first s n

-- the floats of n samples are those of all chunks of their bytes
pub floats_chunked : (s : List ℕ) (n : ℕ) → length s ≡ 8 * n → floats_of s n ≡ map float_in (first_chunks 8 (length s / 8) s)
floats_chunked s n h = sym (ap (λ (k : ℕ). map float_in (first_chunks 8 k s)) (omega arith) ∙ chunk_floats s n)

-- the floats of so many words are within the room
pub all_taken : (words : List (List ℕ)) → length words ≤ sample_room → take sample_room (map float_in words) ≡ map float_in words
all_taken words h = take_all sample_room (map float_in words) (simp length-map h)

-- what the mean of the samples of settings that pass needs
pub ruleset reading = (floats_chunked, store_range)
