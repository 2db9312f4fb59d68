-- A sound buffer stays sound under every operation; and what the test of one gives. Assumes nothing.
use mathlib.Core.Path.{◌≡◌, refl, sym, ap, ◌∙◌}
use mathlib.Core.List.{List, [], ◌∷◌, ◌++◌}
use mathlib.Core.Bool.{Bool, true, false, not, cond, ◌&&◌, and-false}
use Prim.Native.Nat.{ℕ, ◌≤◌, ◌<◌}
use native.Mathlib.Omega.{arith}
use lib.Dec.{leb}
use lib.ListN.{length}
use borrow.Author.Tests.{le-leb, lt-leb, leb-true}
use Rattle.timestamp.specs.declared.Timestamp.{Timestamp}
use Rattle.command.specs.Entries.{Entry, stamp_in, plain_entry}
use Rattle.command.specs.declared.CommandBuffer.{CommandBuffer}
use Rattle.command.specs.Lists.{filter_b, all_b}
use Rattle.command.specs.Buffer.{held, laid, in_range_of, due_of, later_than, placed_of, inserted_of, moved_of, rest_of, emptied_of}
use Rattle.command.specs.Ranks.{sound_rank}
use Rattle.command.specs.Soundness.{in_order_after, in_order, ordered_in, sound_buffer}
use Rattle.command.proofs.Holding.{held_laid, stamp_laid, len_laid, held_len}
use Rattle.command.proofs.Ranks.{rank_in, in_range_rank, later_rank}
use Rattle.command.proofs.Ordered.{Ordered, ordered_tells, ordered_holds, ordered_filter, ordered_moved, ordered_placed}
use Rattle.timestamp.proofs.Tests.{apart, both}
use Rattle.command.proofs.Ledger.{Ways, is_out, is_full, is_taken, insertion_ways, placed_length, moved_held, moved_stamp, moved_len, rest_held}
use Rattle.command.proofs.Ledger.{rest_stamp, rest_len, emptied_held, emptied_len}

-- ---- the parts of soundness

pub record IsSound (b : CommandBuffer) : Type 0 where
  pub few : b.len ≤ 64
  pub order : Ordered b.timestamp 0 (held b)
  pub plain : all_b plain_entry (held b) ≡ true

pub sound_tells : (b : CommandBuffer) → sound_buffer b ≡ true → IsSound b
unfolding sound_buffer
sound_tells b h =
    let a = apart (leb b.len 64 && ordered_in b.timestamp (held b)) (all_b plain_entry (held b)) h in
    let c = apart (leb b.len 64) (ordered_in b.timestamp (held b)) a.0 in
    record { few = leb-true b.len 64 c.0; order = ordered_tells b.timestamp (held b) c.1; plain = a.1 }

pub sound_holds : (b : CommandBuffer) → IsSound b → sound_buffer b ≡ true
unfolding sound_buffer
sound_holds b s = both (both (le-leb b.len 64 s.few) (ordered_holds b.timestamp (held b) s.order)) s.plain

-- no more than 64 are held
pub sound_few : (b : CommandBuffer) → sound_buffer b ≡ true → length (held b) ≤ 64
sound_few b h = omega (arith, (sound_tells b h).few, held_len b)

-- ---- spare bits

plain_filter : (p : Entry → Bool) (xs : List Entry) → all_b plain_entry xs ≡ true → all_b plain_entry (filter_b p xs) ≡ true
plain_filter p [] h = refl
plain_filter p (x ∷ xs) h =
    let a = apart (plain_entry x) (all_b plain_entry xs) h in
    step (p x) a.0 (plain_filter p xs a.1)
  where
    step : (v : Bool) → plain_entry x ≡ true → all_b plain_entry (filter_b p xs) ≡ true → all_b plain_entry (cond v (x ∷ filter_b p xs) (filter_b p xs)) ≡ true
    step true e r = both e r
    step false e r = r

plain_append : (xs ys : List Entry) → all_b plain_entry xs ≡ true → all_b plain_entry ys ≡ true → all_b plain_entry (xs ++ ys) ≡ true
plain_append [] ys h g = g
plain_append (x ∷ xs) ys h g =
    let a = apart (plain_entry x) (all_b plain_entry xs) h in
    both a.0 (plain_append xs ys a.1 g)

plain_placed : (m : Timestamp) (e : Entry) (xs : List Entry) → plain_entry e ≡ true → all_b plain_entry xs ≡ true → all_b plain_entry (placed_of m e xs) ≡ true
unfolding placed_of
plain_placed m e xs h g = plain_append (filter_b (λ x. not (later_than m e x)) xs) (e ∷ filter_b (later_than m e) xs)
    (plain_filter (λ x. not (later_than m e x)) xs g) (both h (plain_filter (later_than m e) xs g))

-- ---- every operation

-- a buffer that is laid out
laid_sound : (xs : List Entry) (t : Timestamp) → length xs ≤ 64 → Ordered t 0 xs → all_b plain_entry xs ≡ true → sound_buffer (laid xs t) ≡ true
laid_sound xs t n o s =
    sound_holds (laid xs t)
    (record {
      few = rw (len_laid xs t) n;
      order = rw (held_laid xs t, stamp_laid xs t) o;
      plain = rw (held_laid xs t) s;
    })

pub new_sound : (t : Timestamp) → sound_buffer (laid [] t) ≡ true
new_sound t = laid_sound [] t (omega arith) tt refl

pub inserted_sound : (b : CommandBuffer) (e : Entry) → plain_entry e ≡ true → sound_buffer b ≡ true → sound_buffer (inserted_of b e).buffer ≡ true
inserted_sound b e h s = go (insertion_ways b e)
  where
    go : Ways b e → sound_buffer (inserted_of b e).buffer ≡ true
    go (is_out i q) = rw q s
    go (is_full i f q) = rw q s
    go (is_taken i f q) =
        let t = sound_tells b s in
        rw q (laid_sound (placed_of b.timestamp e (held b)) b.timestamp (omega (arith, placed_length b.timestamp e (held b)))
        (ordered_placed b.timestamp e (held b) i t.order) (plain_placed b.timestamp e (held b) h t.plain))

pub moved_sound : (b : CommandBuffer) (t : Timestamp) → sound_buffer b ≡ true → sound_buffer (moved_of b t).buffer ≡ true
moved_sound b t s =
    let u = sound_tells b s in
    sound_holds (moved_of b t).buffer
    (record {
      few = moved_len b t u.few;
      order = rw (moved_held b t, moved_stamp b t) (ordered_moved b.timestamp t 0 0 (held b) (λ y a c d e f. omega arith) u.order);
      plain = rw (moved_held b t) (plain_filter (in_range_of t) (held b) u.plain);
    })

pub rest_sound : (b : CommandBuffer) (s : Timestamp) → sound_buffer b ≡ true → sound_buffer (rest_of b s) ≡ true
rest_sound b s h =
    let u = sound_tells b h in
    sound_holds (rest_of b s)
    (record {
      few = rest_len b s u.few;
      order = rw (rest_held b s, rest_stamp b s) (ordered_filter (λ e. not (due_of s e)) b.timestamp 0 (held b) u.order);
      plain = rw (rest_held b s) (plain_filter (λ e. not (due_of s e)) (held b) u.plain);
    })

pub emptied_sound : (b : CommandBuffer) → sound_buffer b ≡ true → sound_buffer (emptied_of b) ≡ true
emptied_sound b h =
    let u = sound_tells b h in
    sound_holds (emptied_of b)
    (record {
      few = emptied_len b u.few;
      order = rw (emptied_held b) tt;
      plain = rw (emptied_held b) refl;
    })

-- ---- the test

-- the answer for the entries xs where the last one ranked lo
unfoldable pub sound_from : Timestamp → ℕ → List Entry → Bool
sound_from m lo [] = true
sound_from m lo (x ∷ xs) = sound_rank (rank_in m x) lo x && sound_from m (rank_in m x) xs

-- the four tests of an entry, and the three answers for the rest, in either order
shuffle : (a b c d o r s : Bool) → ((a && o) && ((b && c) && r)) && (d && s) ≡ (a && b && c && d) && (o && r && s)
shuffle false b c d o r s = refl
shuffle true false c d o r s = rw (and-false o)
shuffle true true false d o r s = rw (and-false o)
shuffle true true true false o r s = and-false (o && r)
shuffle true true true true o r s = refl

double : (t : Bool) → not (not t) ≡ t
double true = refl
double false = refl

after_is : (m : Timestamp) (x : Entry) (ys : List Entry) → (in_order_after m x ys && all_b (in_range_of m) ys) && all_b plain_entry ys ≡ sound_from m
    (rank_in m x) ys
unfolding sound_from in_order_after sound_rank in_range_of
after_is m x [] = refl
after_is m x (y ∷ ys) =
    let k = rank_in m y in
    rw (later_rank m y x, double (leb (rank_in m x) k), in_range_rank m.0 (stamp_in y), ← after_is m y ys)
    (shuffle (leb (rank_in m x) k) (leb 16385 k) (leb k 49150) (plain_entry y) (in_order_after m y ys) (all_b (in_range_of m) ys) (all_b plain_entry ys))

entries_are : (m : Timestamp) (xs : List Entry) → ordered_in m xs && all_b plain_entry xs ≡ sound_from m 0 xs
unfolding sound_from in_order sound_rank in_range_of
entries_are m [] = refl
entries_are m (x ∷ xs) =
    let k = rank_in m x in
    rw (in_range_rank m.0 (stamp_in x), ← after_is m x xs, le-leb 0 k (omega arith))
    (shuffle true (leb 16385 k) (leb k 49150) (plain_entry x) (in_order_after m x xs) (all_b (in_range_of m) xs) (all_b plain_entry xs))

lead : (t o s : Bool) → t && o && s ≡ t && (o && s)
lead true o s = refl
lead false o s = refl

pub buffer_is : (b : CommandBuffer) → sound_buffer b ≡ leb b.len 64 && sound_from b.timestamp 0 (held b)
unfolding sound_buffer
buffer_is b = lead (leb b.len 64) (ordered_in b.timestamp (held b)) (all_b plain_entry (held b))
    ∙ ap (λ (t : Bool). leb b.len 64 && t) (entries_are b.timestamp (held b))

-- too many
pub sound_long : (b : CommandBuffer) → 64 < b.len → false ≡ sound_buffer b
sound_long b h = sym (buffer_is b ∙ ap (λ (t : Bool). t && sound_from b.timestamp 0 (held b)) (lt-leb b.len 64 h))
