-- A buffer that a step leaves as it is: one count says that nothing is due and that nothing leaves the range. Assumes nothing.
use mathlib.Core.Path.{◌≡◌, refl, sym, ap, ◌∙◌}
use mathlib.Core.Logic.{inl, inr}
use mathlib.Core.Bool.{Bool, true, false, not, ◌&&◌}
use mathlib.Core.List.{List, [], ◌∷◌}
use Prim.Native.Nat.{ℕ, suc}
use native.Mathlib.Omega.{arith}
use lib.Dec.{eqb, ltb}
use lib.ListN.{length}
use borrow.Author.Tests.{le-leb, lt-leb, lt-ltb, eq-eqb, ne_eqb}
use Rattle.timestamp.specs.declared.Timestamp.{Timestamp}
use Rattle.timestamp.proofs.Basics.{split}
use Rattle.command.specs.Entries.{Entry, stamp_in}
use Rattle.command.specs.declared.CommandBuffer.{CommandBuffer}
use Rattle.command.specs.Lists.{filter_b}
use Rattle.command.specs.Buffer.{held, in_range_of, due_of, dropped_of, moved_of, taken_of}
use Rattle.command.specs.Ranks.{spanned, rank_within, waits_of}
use Rattle.command.proofs.Lists.{filter_ext}
use Rattle.command.proofs.Holding.{held_len}
use Rattle.command.proofs.Ledger.{moved_ledger, taken_short}
use Rattle.command.proofs.Ranks.{rank_in, rank_lt, span_in_range}
use Rattle.command.proofs.Calls.{not_due, not_not}

-- an empty buffer waits
pub waits_empty : (b : CommandBuffer) (t : Timestamp) → b.len ≡ 0 → true ≡ waits_of b t
unfolding waits_of
waits_empty b t e =
    let taken : length (taken_of b t) ≡ 0 = omega (arith, taken_short b t, held_len b) in
    let dropped : (moved_of b t).dropped ≡ 0 = omega (arith, moved_ledger b t, held_len b) in
    rw (eq-eqb _ _ taken, eq-eqb _ _ dropped) refl

-- the ranks of what is not due and stays in range
span_both : (t : Timestamp) (e : Entry) → rank_within t 32769 49151 e ≡ rank_within t 32769 65536 e && rank_within t 16385 49151 e
unfolding spanned
span_both t e =
    let k = rank_in t e in
    let top : ltb k 65536 ≡ true = lt-ltb k 65536 (rank_lt t.0 (stamp_in e)) in
    elim (split k 32769) [
      | inl l ↦ simp (lt-leb 32769 k l)
      | inr l ↦ simp (le-leb 32769 k l, top, le-leb 16385 k (omega arith))
    ]

pub span_waits : (t : Timestamp) (lo hi : ℕ) → lo ≡ 32769 → hi ≡ 49151 → (e : Entry) → rank_within t lo hi e ≡ not (due_of t e) && in_range_of t e
span_waits t lo hi el eh e =
    (λ i. rank_within t (el i) (eh i) e) ∙ span_both t e ∙ (λ i. not_due t 32769 65536 refl refl e i && span_in_range t 16385 49151 refl refl e i)

and_false : (a : Bool) → false ≡ a && false
and_false true = refl
and_false false = refl

-- how many entries of a list fail a test is 0
abbrev none_fail : (Entry → Bool) → List Entry → Bool
none_fail p xs = eqb (length (filter_b (λ e. not (p e)) xs)) 0

more : (n : ℕ) → eqb (suc n) 0 ≡ false
more n = ne_eqb (suc n) 0 (λ e. omega arith)

fails_by : (p q : Entry → Bool) (x : Entry) (xs : List Entry) (a b : Bool) → p x ≡ a → q x ≡ b
    → none_fail (λ e. p e && q e) xs ≡ none_fail p xs && none_fail q xs → none_fail (λ e. p e && q e) (x ∷ xs) ≡ none_fail p (x ∷ xs) && none_fail q (x ∷ xs)
fails_by p q x xs true true hp hq h = rw (hp, hq) h
fails_by p q x xs true false hp hq h = rw (hp, hq) (simp more (and_false (none_fail p xs)))
fails_by p q x xs false b hp hq h = rw hp (more (length (filter_b (λ e. not (p e && q e)) xs))
    ∙ ap (λ (c : Bool). c && none_fail q (x ∷ xs)) (sym (more (length (filter_b (λ e. not (p e)) xs)))))

-- nothing fails one of two tests exactly where nothing fails either
none_fails : (p q : Entry → Bool) (xs : List Entry) → none_fail (λ e. p e && q e) xs ≡ none_fail p xs && none_fail q xs
none_fails p q [] = refl
none_fails p q (x ∷ xs) = fails_by p q x xs (p x) (q x) refl refl (none_fails p q xs)

-- the one count decides
pub waits_counted : (b : CommandBuffer) (t : Timestamp) {lo hi n : ℕ} → lo ≡ 32769 → hi ≡ 49151
    → n ≡ length (filter_b (λ e. not (rank_within t lo hi e)) (held b)) → eqb n 0 ≡ waits_of b t
unfolding waits_of taken_of moved_of dropped_of
waits_counted b t {lo} {hi} el eh hn =
    ap (λ (k : ℕ). eqb k 0) (hn ∙ ap length (filter_ext (λ e. not (rank_within t lo hi e)) (λ e. not (not (due_of t e) && in_range_of t e))
    (λ e. ap not (span_waits t lo hi el eh e)) (held b)))
    ∙ none_fails (λ e. not (due_of t e)) (in_range_of t) (held b)
    ∙ ap (λ (l : List Entry). eqb (length l) 0 && eqb (length (filter_b (λ e. not (in_range_of t e)) (held b))) 0)
    (filter_ext (λ e. not (not (due_of t e))) (due_of t) (λ e. not_not (due_of t e)) (held b))
