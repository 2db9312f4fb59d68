-- What a tape holds after words are put on it, one run of them after another, and after the rest is zeroed. Assumes nothing.
use mathlib.Core.List.{List, [], ◌∷◌, ◌++◌, append_assoc, append-nil}
use mathlib.Core.Path.{◌≡◌, refl, ap, sym, ◌∙◌}
use Prim.Native.Nat.{ℕ, suc, ◌-◌, ◌+◌, ◌/◌, ◌^◌, ◌<◌, ◌≤◌}
use native.Mathlib.Omega.{arith}
use lib.ListN.{length, take, drop, drop_of_length-le, replicate, set, length-append, length-replicate}
use lib.Seq.{sets, length-sets, sets-eq, take-append_seam, set_out, drop-drop}
use borrow.Rule.Slice.PartMut.{mid_of, post_of, put_mid, mid_len}
use lib.Ieee.{Float, binary64, to_bits}
use Rattle.tape.specs.Words.{mix_word, weight_word, weight_words, mix_words}
use Rattle.tape.specs.declared.Tape.{Tape}
use Rattle.tape.specs.Tape.{written, words_from, cleared, Puts, PutsOn}

-- a tape keeps its length
pub length-written : (t : List ℕ) (n : ℕ) (ws : List ℕ) → length (written t n ws) ≡ length t
unfolding written
length-written t n ws = length-sets t n ws

-- no words leave the tape as it is
pub written_nil : (t : List ℕ) (n : ℕ) → written t n [] ≡ t
unfolding written
written_nil t n = refl

-- one word is a store at its place
pub written_one : (t : List ℕ) (n w : ℕ) → written t n (w ∷ []) ≡ set t n w
unfolding written
written_one t n w = refl

-- a word past the end leaves the tape as it is
pub written_out : (t : List ℕ) (n w : ℕ) → length t ≤ n → written t n (w ∷ []) ≡ t
unfolding written
written_out t n w h = set_out t n w h

-- words, and others from the next place on, are all of them in one run
pub written-append : (us t : List ℕ) (n : ℕ) (ws : List ℕ) → written (written t n us) (n + length us) ws ≡ written t n (us ++ ws)
unfolding written
written-append us t n ws = go us t n
  where
    go : (us t : List ℕ) (n : ℕ) → sets (sets t n us) (n + length us) ws ≡ sets t n (us ++ ws)
    go [] t n =
        let e : n + 0 ≡ n = omega arith in
        rw e refl
    go (u ∷ us) t n =
        let e : n + suc (length us) ≡ suc n + length us = omega arith in
        rw e (go us (set t n u) (suc n))

-- nothing put
pub puts_none : (t : List ℕ) (n : ℕ) → Puts t n [] n t
puts_none t n = record { at = omega arith; tape = sym (written_nil t n) }

-- words put, and others after them
pub puts_then : {t u v : List ℕ} {n m k : ℕ} {us ws : List ℕ} → Puts t n us m u → Puts u m ws k v → Puts t n (us ++ ws) k v
puts_then {t} {u} {v} {n} {m} {k} {us} {ws} p q =
    record {
      at =
          let e : length (us ++ ws) ≡ length us + length ws = length-append us ws in
          omega (arith, p.at, q.at);
      tape = q.tape ∙ ap (λ (l : List ℕ). written l m ws) p.tape ∙ ap (λ (j : ℕ). written (written t n us) j ws) p.at ∙ written-append us t n ws;
    }

-- the same words under another name
pub puts_as : {t u : List ℕ} {n m : ℕ} {us ws : List ℕ} → us ≡ ws → Puts t n us m u → Puts t n ws m u
puts_as {t} {u} {n} {m} {us} {ws} e p = rw e at p

-- a tape that words are put on keeps its length
pub puts-length : {t u : List ℕ} {n m : ℕ} {us : List ℕ} → Puts t n us m u → length u ≡ length t
puts-length {t} {u} {n} {m} {us} p = ap length p.tape ∙ length-written t n us

-- the rest of a tape, from a place on it, filled with zeros
pub cleared_filled : (t : List ℕ) (n : ℕ) {ys : List ℕ} → n < length t → ys ≡ replicate (length (mid_of n (length t - n) t)) 0
    → put_mid n (length t - n) t ys ≡ cleared t n
unfolding cleared written
cleared_filled t n {ys} h e =
    let z : List ℕ = replicate (words_from t n) 0 in
    let l : length z ≡ words_from t n = length-replicate (words_from t n) 0 in
    let none : post_of n (length t - n) t ≡ drop (n + length z) t = drop-drop (length t - n) n t ∙ ap (λ (k : ℕ). drop (n + k) t) (sym l) in
    rw (e, mid_len n (length t) t (omega arith), none) (sym (sets-eq z t n (omega arith) ∙ append_assoc (take n t) z _))

-- from the end on there is nothing to zero
pub cleared_end : (t : List ℕ) (i : ℕ) → length t ≤ i → cleared t i ≡ t
unfolding cleared written
cleared_end t i h =
    let e : words_from t i ≡ 0 = omega arith in
    rw e refl

-- zeroed from the start, a tape is zeros
pub cleared_all : (t : List ℕ) → cleared t 0 ≡ replicate (length t) 0
unfolding cleared written
cleared_all t =
    let e : length t - 0 ≡ length t = omega arith in
    let z : List ℕ = replicate (length t) 0 in
    let l : length z ≡ length t = length-replicate (length t) 0 in
    let h : length t ≤ 0 + length z = omega arith in
    let d : drop (0 + length z) t ≡ [] = drop_of_length-le t h in
    rw (e, sets-eq z t 0 (omega arith), d) (append-nil _)

-- words that fit put from the start, and the rest zeroed: the words, and zeros
pub cleared_after : (ws t : List ℕ) → length ws ≤ length t → cleared (written t 0 ws) (length ws) ≡ ws ++ replicate (length t - length ws) 0
unfolding cleared written
cleared_after ws t h =
    let rest : List ℕ = drop (0 + length ws) t in
    let n : ℕ = length t - length ws in
    let z : List ℕ = replicate n 0 in
    let e : sets t 0 ws ≡ ws ++ rest = sets-eq ws t 0 (omega arith) in
    let lr : length (ws ++ rest) ≡ length t = sym (ap length e) ∙ length-sets t 0 ws in
    let l : length z ≡ n = length-replicate n 0 in
    let k : length (ws ++ rest) ≤ length ws + length z = omega arith in
    let d : drop (length ws + length z) (ws ++ rest) ≡ [] = drop_of_length-le (ws ++ rest) k in
    rw (length-sets, e, sets-eq z (ws ++ rest) (length ws) (omega arith), d, take-append_seam, append-nil) refl

-- ---- a tape that is lent

-- what is put on it, as a list and a place
pub on_puts : {t u : Tape} {us : List ℕ} → PutsOn t us u → Puts t.words.now t.at us u.at u.words.now
on_puts p = record { at = p.at; tape = p.tape }

-- and the other way round, where it stays the one that was lent
pub puts_on : {t u : Tape} {us : List ℕ} → Puts t.words.now t.at us u.at u.words.now → u.words.ghost_name ≡ t.words.ghost_name → PutsOn t us u
puts_on p e = record { at = p.at; tape = p.tape; lent = e }

-- nothing put
pub on_none : (t : Tape) → PutsOn t [] t
on_none t = puts_on (puts_none t.words.now t.at) refl

-- words put, and others after them
pub on_then : {t u v : Tape} {us ws : List ℕ} → PutsOn t us u → PutsOn u ws v → PutsOn t (us ++ ws) v
on_then p q = puts_on (puts_then (on_puts p) (on_puts q)) (q.lent ∙ p.lent)

-- the same words under another name
pub on_as : {t u : Tape} {us ws : List ℕ} → us ≡ ws → PutsOn t us u → PutsOn t ws u
on_as e p = puts_on (puts_as e (on_puts p)) p.lent

-- three words put that hold the high, the middle and the low part of a pattern
pub on_weight : {t u v l : Tape} {x y z : ℕ} (bits : ℕ) → x ≡ weight_word (bits / 2 ^ 56) → PutsOn t (x ∷ []) u → y ≡ weight_word (bits / 2 ^ 28)
    → PutsOn u (y ∷ []) v → z ≡ weight_word bits → PutsOn v (z ∷ []) l → PutsOn t (weight_words bits) l
unfolding weight_words
on_weight bits ex p ey q ez r = on_as (rw (ex, ey, ez)) (on_then (on_then p q) r)

-- a mix's own word put, and then those of its weight
pub on_mix : {t u l : Tape} {x bits : ℕ} (weight : Float) → x ≡ mix_word → PutsOn t (x ∷ []) u → bits ≡ to_bits binary64 weight
    → PutsOn u (weight_words bits) l → PutsOn t (mix_words weight) l
unfolding mix_words
on_mix weight ex p eb q = on_as (rw (ex, eb)) (on_then p q)
