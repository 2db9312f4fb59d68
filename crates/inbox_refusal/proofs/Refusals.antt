-- The refusal of an inbox, message by message: a pass that keeps the lowest number finds it. Assumes nothing.
use Rattle.std.proofs.Common.{◌≡◌, ℕ, ◌<◌, ◌≤◌, Bool, true, false, cond, List, [], ◌∷◌, length, refl, sym, ap, ◌∙◌, Ok, Err}
use Rattle.std.proofs.Common.{arith, ltb, ltb-true, ltb-false, lt-ltb, le-ltb}
use mathlib.Core.Logic.{inl, inr}
use Rattle.refusals.specs.declared.Refusal.{Refusal}
use Rattle.refusals.specs.declared.Refusal.TheVariants.{Length, Word, Cut, ClockTime}
use Rattle.refusals.specs.Refusals.{Verdict, accepted, number_of}
use Rattle.inbox.specs.declared.Message.TheVariants.{Command, Snapshot, Clock}
use Rattle.inbox.specs.Inbox.{Reading, messages_of, some}
use Rattle.inbox.specs.Passes.{over}
use Rattle.inbox.proofs.Bounds.{OfWords, Bounded, messages_bounded}
use Rattle.inbox.proofs.Passes.{Each}
use Rattle.inbox_refusal.specs.Refusal.{verdict_of, lowest_of, lowest_with, is_refused, refusal_in, refusal_of}

-- ---- of three verdicts the lowest is found in either order

lowest_none : (a : Verdict) → lowest_of a accepted ≡ a
lowest_none (Ok tt) = refl
lowest_none (Err e) = refl

-- of three refusals, by the tests of each two of them
by_tests : (e f g : Refusal) (ef fg eg : Bool) → ltb (number_of f) (number_of e) ≡ ef → ltb (number_of g) (number_of f) ≡ fg
    → ltb (number_of g) (number_of e) ≡ eg → lowest_of (lowest_of (Err e) (Err f)) (Err g) ≡ lowest_of (Err e) (lowest_of (Err f) (Err g))
by_tests e f g true true true p q r = simp (p, q, r)
by_tests e f g true true false p q r = absurd (omega (arith, ltb-true, ltb-false))
by_tests e f g true false eg p q r = simp (p, q)
by_tests e f g false true eg p q r = simp (p, q)
by_tests e f g false false true p q r = absurd (omega (arith, ltb-true, ltb-false))
by_tests e f g false false false p q r = simp (p, q, r)

lowest_three : (a b c : Verdict) → lowest_of (lowest_of a b) c ≡ lowest_of a (lowest_of b c)
lowest_three (Ok x) b c = refl
lowest_three (Err e) (Ok x) c = refl
lowest_three (Err e) (Err f) (Ok x) = lowest_none (lowest_of (Err e) (Err f))
lowest_three (Err e) (Err f) (Err g) = by_tests e f g _ _ _ refl refl refl

-- ---- the refusal of a list of messages is the lowest of the first's and that of the others

wrong_next : (ms : List Reading) → refusal_in (Err Word ∷ ms) ≡ lowest_of (Err Word) (refusal_in ms)
unfolding refusal_in
wrong_next ms = go (some (is_refused Word) ms) (some (is_refused Cut) ms) (some (is_refused ClockTime) ms)
  where
    go : (x y z : Bool) → Err Word ≡ lowest_of (Err Word) (cond x (Err Word) (cond y (Err Cut) (cond z (Err ClockTime) accepted)))
    go true y z = refl
    go false true z = refl
    go false false true = refl
    go false false false = refl

cut_next : (ms : List Reading) → refusal_in (Err Cut ∷ ms) ≡ lowest_of (Err Cut) (refusal_in ms)
unfolding refusal_in
cut_next ms = go (some (is_refused Word) ms) (some (is_refused Cut) ms) (some (is_refused ClockTime) ms)
  where
    go : (x y z : Bool) → cond x (Err Word) (Err Cut) ≡ lowest_of (Err Cut) (cond x (Err Word) (cond y (Err Cut) (cond z (Err ClockTime) accepted)))
    go true y z = refl
    go false true z = refl
    go false false true = refl
    go false false false = refl

time_next : (ms : List Reading) → refusal_in (Err ClockTime ∷ ms) ≡ lowest_of (Err ClockTime) (refusal_in ms)
unfolding refusal_in
time_next ms = go (some (is_refused Word) ms) (some (is_refused Cut) ms) (some (is_refused ClockTime) ms)
  where
    go : (x y z : Bool) → cond x (Err Word) (cond y (Err Cut) (Err ClockTime))
        ≡ lowest_of (Err ClockTime) (cond x (Err Word) (cond y (Err Cut) (cond z (Err ClockTime) accepted)))
    go true y z = refl
    go false true z = refl
    go false false true = refl
    go false false false = refl

refusal_next : (m : Reading) → Bounded m → (ms : List Reading) → refusal_in (m ∷ ms) ≡ lowest_of (verdict_of m) (refusal_in ms)
unfolding refusal_in
refusal_next (Ok (Command s h)) b ms = refl
refusal_next (Ok (Snapshot s h)) b ms = refl
refusal_next (Ok (Clock i s t)) b ms = refl
refusal_next (Err e) b ms = by b
  where
    by : OfWords e → refusal_in (Err e ∷ ms) ≡ lowest_of (Err e) (refusal_in ms)
    by (inl p) = rw p (wrong_next ms)
    by (inr (inl p)) = rw p (cut_next ms)
    by (inr (inr p)) = rw p (time_next ms)

-- ---- a pass over an inbox finds the lowest

lowest_over : (found : Verdict) (ms : List Reading) → Each Bounded ms → over lowest_with found ms ≡ lowest_of found (refusal_in ms)
unfolding refusal_in
lowest_over found [] b = sym (lowest_none found)
lowest_over found (m ∷ ms) b = lowest_over (lowest_with found m) ms b.1 ∙ lowest_three found (verdict_of m) (refusal_in ms)
    ∙ ap (lowest_of found) (sym (refusal_next m b.0 ms))

-- more than 4,096 words
pub refusal_long : (words : List ℕ) → 4096 < length words → Err Length ≡ refusal_of words
unfolding refusal_of
refusal_long words h = rw (lt-ltb 4096 (length words) h)

-- 4,096 words or fewer: the lowest of the messages'
pub refusal_found : (words : List ℕ) → length words ≤ 4096 → refusal_of words ≡ over lowest_with accepted (messages_of words)
unfolding refusal_of
refusal_found words h = rw (le-ltb 4096 (length words) h) (sym (lowest_over accepted (messages_of words) (messages_bounded words)))

-- of any length: the lowest of the messages'
pub refusal_lowest : (words : List ℕ) → refusal_in (messages_of words) ≡ over lowest_with accepted (messages_of words)
refusal_lowest words = sym (lowest_over accepted (messages_of words) (messages_bounded words))

-- an inbox that is not refused has at most 4,096 words
pub accepted_few : (words : List ℕ) → refusal_of words ≡ accepted → length words ≤ 4096
unfolding refusal_of
accepted_few words = go (ltb 4096 (length words)) (ltb-false 4096 (length words))
  where
    go : (t : Bool) → (t ≡ false → length words ≤ 4096) → cond t (Err Length) (refusal_in (messages_of words)) ≡ accepted → length words ≤ 4096
    go true f e = absurd (cc)
    go false f e = f refl
