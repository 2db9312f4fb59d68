-- The operations by their cases: what each way through the code gives is what the definition says. Assumes nothing.
use mathlib.Core.Path.{◌≡◌, refl, ap, ◌∙◌}
use mathlib.Core.List.{List, [], ◌∷◌, ◌++◌, append_assoc}
use mathlib.Core.Bool.{Bool, true, false, not}
use Prim.Native.Nat.{ℕ, ◌+◌, ◌≤◌, ◌<◌}
use native.Mathlib.Omega.{arith}
use lib.ListN.{length, length-append}
use borrow.Author.Tests.{lt-ltb, le-ltb}
use Rattle.timestamp.specs.declared.Timestamp.{Timestamp}
use Rattle.tape.specs.declared.Tape.{Tape}
use Rattle.tape.specs.Tape.{PutsOn}
use Rattle.tape.proofs.Writing.{on_as}
use Rattle.command.specs.Entries.{Entry}
use Rattle.command.specs.declared.CommandBuffer.{CommandBuffer}
use Rattle.command.specs.declared.Outcome.TheVariants.{Taken, OutOfRange, Full}
use Rattle.command.specs.Lists.{filter_b}
use Rattle.command.specs.Buffer.{Insertion, Moved, Drained, held, laid, in_range_of, due_of, later_than}
use Rattle.command.specs.Buffer.{placed_of, inserted_of, leaving, around, dropped_of, moved_of, taken_of, rest_of}
use Rattle.command.specs.Buffer.{drained_of, emptied_of, drained_all_of, command_words, Applies, AppliesAll}
use Rattle.command.specs.Ranks.{rank_within, sifted_of, HasRoom}
use Rattle.command.proofs.Lists.{filter_ext, filter_all, filter-ledger, filter_short}
use Rattle.command.proofs.Holding.{held_few, held_of, clean, leaving_none, leaving_some}
use Rattle.command.proofs.Ranks.{rank_in, span_in_range, span_due, span_up_to, span_from, span_all}
use Rattle.command.proofs.Applying.{words-length}

-- ---- a sift

-- room in an empty buffer for what is in a span
pub room_kept : {b q : CommandBuffer} (t : Timestamp) {m : Timestamp} {lo hi : ℕ} → length b.entries ≡ 64 → q ≡ laid [] t → HasRoom q b m lo hi
room_kept {b} {q} t {m} {lo} {hi} slots e =
    record { whole = clean [] t e; room = rw (held_of [] t e) (omega (arith, filter_short (rank_within m lo hi) (held b), held_few b slots)) }

module _ (b : CommandBuffer) (m : Timestamp) (lo hi : ℕ) {n : ℕ} (counted : n ≡ length (filter_b (λ e. not (rank_within m lo hi e)) (held b))) where
  pub sifted_none : n ≡ 0 → ◌≡◌ {A = Drained} (record { buffer = b; count = n }) (sifted_of b m lo hi)
  unfolding sifted_of
  sifted_none z =
      let gone : List Entry = filter_b (λ e. not (rank_within m lo hi e)) (held b) in
      let stay : List Entry = filter_b (rank_within m lo hi) (held b) in
      ap (λ (q : CommandBuffer). record { buffer = q; count = n }) (leaving_none gone stay b (omega (arith, counted, z)))
      ∙ ap (λ (k : ℕ). record { buffer = leaving gone stay b; count = k }) counted

  pub sifted_some : (n ≡ 0 → ⊥) → {q : CommandBuffer} → q ≡ laid (filter_b (rank_within m lo hi) (held b)) b.timestamp
      → ◌≡◌ {A = Drained} (record { buffer = q; count = n }) (sifted_of b m lo hi)
  unfolding sifted_of
  sifted_some z {q} e =
      ap (λ (k : ℕ). record { buffer = q; count = k }) counted
      ∙ ap (λ (r : CommandBuffer). record { buffer = r; count = length (filter_b (λ x. not (rank_within m lo hi x)) (held b)) })
      (e ∙ leaving_some (filter_b (λ x. not (rank_within m lo hi x)) (held b)) (filter_b (rank_within m lo hi) (held b)) b (λ h. z (counted ∙ h)))

-- a sift by a span that agrees with a test
sifted_by : (b : CommandBuffer) (m : Timestamp) (lo hi : ℕ) (p : Entry → Bool) → ((e : Entry) → rank_within m lo hi e ≡ p e)
    → sifted_of b m lo hi ≡ record
    { buffer = leaving (filter_b (λ e. not (p e)) (held b)) (filter_b p (held b)) b; count = length (filter_b (λ e. not (p e)) (held b)) }
unfolding sifted_of
sifted_by b m lo hi p h = rw (
  filter_ext (λ e. not (rank_within m lo hi e)) (λ e. not (p e)) (λ e. ap not (h e)) (held b),
  filter_ext
      (rank_within m lo hi) p h (held b),
)

-- ---- a move of the midpoint

pub moved_is : (b : CommandBuffer) (t : Timestamp) {lo hi : ℕ} → lo ≡ 16385 → hi ≡ 49151 → {r : Drained} → r ≡ sifted_of (around t b) t lo hi → {n : ℕ}
    → n ≡ r.count → ◌≡◌ {A = Moved} (record { buffer = r.buffer; dropped = n }) (moved_of b t)
unfolding moved_of dropped_of
moved_is b t {lo} {hi} el eh e f = rw (f, e, sifted_by (around t b) t lo hi (in_range_of t) (span_in_range t lo hi el eh))

-- ---- drains

pub not_due : (s : Timestamp) (lo hi : ℕ) → lo ≡ 32769 → hi ≡ 65536 → (e : Entry) → rank_within s lo hi e ≡ not (due_of s e)
not_due s lo hi el eh e = span_from s lo hi eh e ∙ ap not (span_due s 0 lo refl el e)

pub not_not : (t : Bool) → not (not t) ≡ t
not_not true = refl
not_not false = refl

pub drained_is : (b : CommandBuffer) (s : Timestamp) {lo hi : ℕ} → lo ≡ 32769 → hi ≡ 65536 → {r : Drained} → r ≡ sifted_of b s lo hi → r ≡ drained_of b s
unfolding rest_of taken_of
drained_is b s {lo} {hi} el eh e =
    e ∙ sifted_by b s lo hi (λ x. not (due_of s x)) (not_due s lo hi el eh)
    ∙ ap (λ (l : List Entry). record { buffer = leaving l (filter_b (λ x. not (due_of s x)) (held b)) b; count = length l })
    (filter_ext (λ x. not (not (due_of s x))) (due_of s) (λ x. not_not (due_of s x)) (held b))

taken_is : (b : CommandBuffer) (s : Timestamp) (lo hi : ℕ) → lo ≡ 0 → hi ≡ 32769 → filter_b (rank_within s lo hi) (held b) ≡ taken_of b s
unfolding taken_of
taken_is b s lo hi el eh = filter_ext (rank_within s lo hi) (due_of s) (span_due s lo hi el eh) (held b)

-- a drain to the tape
pub applies_is : (b : CommandBuffer) (s : Timestamp) {side count : ℕ} {was now : Tape} {lo hi : ℕ} {left : CommandBuffer} → lo ≡ 0 → hi ≡ 32769
    → PutsOn was (command_words side (filter_b (rank_within s lo hi) (held b))) now
    → ◌≡◌ {A = Drained} (record { buffer = left; count = count }) (drained_of b s) → Applies b s side was left now
applies_is b s {side} {count} {was} {now} {lo} {hi} el eh p e =
    let u : PutsOn was (command_words side (taken_of b s)) now = on_as (ap (command_words side) (taken_is b s lo hi el eh)) p in
    record {
      buffer = ap (λ (d : Drained). d.buffer) e;
      at = omega (arith, u.at, words-length side (taken_of b s));
      tape = u.tape;
      lent = u.lent;
    }

-- ---- a drain of everything

pub emptied_none : (b : CommandBuffer) {n : ℕ} → n ≡ length (held b) → n ≡ 0 → ◌≡◌ {A = Drained} (record { buffer = b; count = n }) (drained_all_of b)
unfolding emptied_of
emptied_none b {n} e z =
    ap (λ (q : CommandBuffer). record { buffer = q; count = n }) (leaving_none (held b) [] b (omega (arith, e, z)))
    ∙ ap (λ (k : ℕ). record { buffer = leaving (held b) [] b; count = k }) e

pub emptied_some : (b : CommandBuffer) {n : ℕ} → n ≡ length (held b) → (n ≡ 0 → ⊥) → {q : CommandBuffer} → q ≡ laid [] b.timestamp
    → ◌≡◌ {A = Drained} (record { buffer = q; count = n }) (drained_all_of b)
unfolding emptied_of
emptied_some b {n} e z {q} f =
    ap (λ (k : ℕ). record { buffer = q; count = k }) e
    ∙ ap (λ (r : CommandBuffer). record { buffer = r; count = length (held b) }) (f ∙ leaving_some (held b) [] b (λ h. z (e ∙ h)))

pub applies_all_is : (b : CommandBuffer) (t : Timestamp) {side count : ℕ} {was now : Tape} {lo hi : ℕ} {left : CommandBuffer} → lo ≡ 0
    → hi ≡ 65536 → PutsOn was (command_words side (filter_b (rank_within t lo hi) (held b))) now
    → ◌≡◌ {A = Drained} (record { buffer = left; count = count }) (drained_all_of b) → AppliesAll b side was left now
applies_all_is b t {side} {count} {was} {now} {lo} {hi} el eh p e =
    let u : PutsOn was (command_words side (held b)) now =
    on_as (ap (command_words side) (filter_all (rank_within t lo hi) (span_all t lo hi el eh) (held b))) p in
    record {
      buffer = ap (λ (d : Drained). d.buffer) e;
      at = omega (arith, u.at, words-length side (held b));
      tape = u.tape;
      lent = u.lent;
    }

-- ---- an insertion

module _ (b : CommandBuffer) (e : Entry) where
  pub inserted_out : in_range_of b.timestamp e ≡ false → ◌≡◌ {A = Insertion} (record { outcome = OutOfRange; buffer = b }) (inserted_of b e)
  unfolding inserted_of
  inserted_out h = simp h

  module _ (h : in_range_of b.timestamp e ≡ true) where
    pub inserted_full : 64 ≤ length (held b) → ◌≡◌ {A = Insertion} (record { outcome = Full; buffer = b }) (inserted_of b e)
    unfolding inserted_of
    inserted_full f = simp (h, le-ltb (length (held b)) 64 f)

    pub inserted_taken : length (held b) < 64 → {q : CommandBuffer} → q ≡ laid (placed_of b.timestamp e (held b)) b.timestamp
        → ◌≡◌ {A = Insertion} (record { outcome = Taken; buffer = q }) (inserted_of b e)
    unfolding inserted_of
    inserted_taken f {q} eq = simp (h, lt-ltb (length (held b)) 64 f) (ap (λ (x : CommandBuffer). record { outcome = Taken; buffer = x }) eq)

  -- those not later, e, and those that are later
  pub placed_is : {next : ℕ} → next ≡ rank_in b.timestamp e + 1 → {lo hi : ℕ} → lo ≡ 0 → hi ≡ 65536
      → {q : CommandBuffer} → q ≡ laid ((filter_b (rank_within b.timestamp lo next) (held b) ++ (e ∷ [])) ++ filter_b
      (rank_within b.timestamp next hi) (held b)) b.timestamp → q ≡ laid (placed_of b.timestamp e (held b)) b.timestamp
  unfolding placed_of
  placed_is {next} en {lo} {hi} el eh {q} eq =
      let m = b.timestamp in
      let before : filter_b (rank_within m lo next) (held b) ≡ filter_b (λ x. not (later_than m e x)) (held b) =
      filter_ext (rank_within m lo next) (λ x. not (later_than m e x)) (span_up_to m e lo next el en) (held b) in
      let after : filter_b (rank_within m next hi) (held b) ≡ filter_b (later_than m e) (held b) =
      filter_ext (rank_within m next hi) (later_than m e)
      (λ x. span_from m next hi eh x ∙ ap not (span_up_to m e 0 next refl en x) ∙ not_not (later_than m e x)) (held b) in
      rw (before, after, append_assoc) at eq

  -- room for e after those not later, and for those that are later after e
  module _ (few : length (held b) < 64) (next : ℕ) where
    two_parts : length (filter_b (rank_within b.timestamp 0 next) (held b)) + length (filter_b (rank_within b.timestamp next 65536) (held b)) ≡ length
        (held b)
    two_parts = rw (filter_ext (rank_within b.timestamp next 65536) (λ x. not (rank_within b.timestamp 0 next x))
        (span_from b.timestamp next 65536 refl) (held b)) (filter-ledger (rank_within b.timestamp 0 next) (held b))

    pub room_for : {q : CommandBuffer} → q ≡ laid (filter_b (rank_within b.timestamp 0 next) (held b)) b.timestamp
        → (q ≡ laid (held q) q.timestamp) × (length (held q) + 1 ≤ 64)
    room_for eq = (clean _ _ eq, rw (held_of _ _ eq) (omega (arith, two_parts)))

    pub room_after : {p : CommandBuffer} → p ≡ laid (filter_b (rank_within b.timestamp 0 next) (held b) ++ (e ∷ [])) b.timestamp
        → HasRoom p b b.timestamp next 65536
    room_after ep = record { whole = clean _ _ ep; room = rw (held_of _ _ ep) (simp length-append (omega (arith, two_parts))) }
