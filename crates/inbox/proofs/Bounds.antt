-- What the messages of an inbox are within: stamps of 16 bits, handles of 24, client ids of 28, times that are finite and within 2 ^ 32, and for words that
-- say none three refusals. Assumes nothing.
use mathlib.Core.Path.{◌≡◌, refl}
use mathlib.Core.Bool.{Bool, true, false, cond}
use mathlib.Core.Logic.{◌⊎◌, inl, inr}
use mathlib.Core.List.{List, [], ◌∷◌}
use Prim.Native.Nat.{ℕ, zero, suc, ◌-◌, ◌^◌, ◌<◌, ◌≤◌}
use native.Mathlib.Omega.{arith}
use lib.ListN.{length, drop}
use lib.Dec.{T}
use lib.Ieee.{Float, binary64, of_bits}
use borrow.Author.Tests.{ltb-true}
use Rattle.std.specs.Prelude.{Result, Ok, Err, MatchResult}
use Rattle.timestamp.specs.Floats.{time_ok}
use Rattle.refusals.specs.declared.Refusal.{Refusal}
use Rattle.refusals.specs.declared.Refusal.TheVariants.{Word, Cut, ClockTime}
use Rattle.inbox.specs.declared.Head.{Head}
use Rattle.inbox.specs.declared.Head.TheVariants.{ForCommand, ForSnapshot, ForClock}
use Rattle.inbox.specs.declared.Message.TheVariants.{Command, Snapshot, Clock}
use Rattle.inbox.specs.Inbox.{Reading, and_then, low_bits_of, is_word, stamp_from, due_word_of, head_of, float_bits_of, inbox_time_of, clock_of, Front}
use Rattle.inbox.specs.Inbox.{by_head, or_all, front_of, messages_after, messages_of}
use Rattle.inbox.proofs.Passes.{Each}

-- why words say no message: a wrong word, an end inside the message, or a clock time out of range
abbrev pub OfWords : Refusal → Type 0
OfWords e = (e ≡ Word) ⊎ ((e ≡ Cut) ⊎ (e ≡ ClockTime))

-- what a message's values are within
abbrev pub Bounded : Reading → Type 0
Bounded (Ok (Command s h)) = (s.0 < 2 ^ 16) × (h < 2 ^ 24)
Bounded (Ok (Snapshot s h)) = (s.0 < 2 ^ 16) × (h < 2 ^ 24)
Bounded (Ok (Clock i s t)) = (i < 2 ^ 28) × T (time_ok s) × T (time_ok t)
Bounded (Err e) = OfWords e

-- what a message's first word says is within
abbrev BoundedHead : Head → Type 0
BoundedHead (ForCommand s) = s.0 < 2 ^ 16
BoundedHead (ForSnapshot s) = s.0 < 2 ^ 16
BoundedHead (ForClock id) = id < 2 ^ 28

-- of a value P holds, and a refusal is one of the three
abbrev Holds : {A : Type 0} → Result A Refusal → (A → Type 0) → Type 0
Holds x P = MatchResult x P OfWords

-- what holds of all that may come after a value holds of what comes after it
then_holds : {A B : Type 0} (x : Result A Refusal) (f : A → Result B Refusal) (Q : A → Type 0) (P : B → Type 0) → Holds x Q
    → ((v : A) → Q v → Holds (f v) P) → Holds (and_then x f) P
then_holds (Ok v) f Q P q h = h v q
then_holds (Err e) f Q P q h = q

word_within : (k room w : ℕ) (b : Bool) → is_word k room w ≡ b → b ≡ true → low_bits_of w < room
word_within k room w b e f = search (arith, ltb-true)

due_bounded : (k room : ℕ) (ws : List ℕ) → Holds (due_word_of k room ws) (λ v. v < room)
due_bounded k room [] = inr (inl refl)
due_bounded k room (w ∷ ws) = go (is_word k room w) refl
  where
    go : (b : Bool) → is_word k room w ≡ b → Holds (cond b (Ok (low_bits_of w)) (Err Word)) (λ v. v < room)
    go true e = word_within k room w true e refl
    go false e = inl refl

head_bounded : (w : ℕ) → Holds (head_of w) BoundedHead
head_bounded w = go (is_word 1 (2 ^ 16) w) (is_word 2 (2 ^ 16) w) (is_word 3 (2 ^ 28) w) refl refl
  where
    go : (a b c : Bool) → is_word 1 (2 ^ 16) w ≡ a → is_word 2 (2 ^ 16) w ≡ b
        → Holds (cond a (Ok (ForCommand (stamp_from (low_bits_of w)))) (cond b (Ok (ForSnapshot (stamp_from (low_bits_of w))))
        (cond c (Ok (ForClock (low_bits_of w))) (Err Word)))) BoundedHead
    go true b c f g = word_within 1 (2 ^ 16) w true f refl
    go false true c f g = word_within 2 (2 ^ 16) w true g refl
    go false false true f g = omega arith
    go false false false f g = inl refl

bits_bounded : (ws : List ℕ) → Holds (float_bits_of ws) (λ b. Unit {0})
unfolding float_bits_of
bits_bounded ws =
    then_holds (due_word_of 5 (2 ^ 8) ws) _ (λ v. v < 2 ^ 8) (λ b. Unit {0}) (due_bounded 5 (2 ^ 8) ws)
    (λ high h. then_holds (due_word_of 5 (2 ^ 28) (drop 1 ws)) _ (λ v. v < 2 ^ 28) (λ b. Unit {0}) (due_bounded 5 (2 ^ 28) (drop 1 ws))
    (λ middle h'. then_holds (due_word_of 5 (2 ^ 28) (drop 2 ws)) _ (λ v. v < 2 ^ 28) (λ b. Unit {0}) (due_bounded 5 (2 ^ 28) (drop 2 ws)) (λ low h''. tt)))

time_bounded : (n : ℕ) → Holds (inbox_time_of n) (λ x. T (time_ok x))
unfolding inbox_time_of
time_bounded n = go (of_bits binary64 n) (time_ok (of_bits binary64 n)) refl
  where
    go : (x : Float) (b : Bool) → time_ok x ≡ b → Holds (cond b (Ok x) (Err ClockTime)) (λ y. T (time_ok y))
    go x true e = rw e tt
    go x false e = inr (inr refl)

clock_bounded : (id s t : ℕ) → id < 2 ^ 28 → Bounded (clock_of id s t)
unfolding clock_of
clock_bounded id s t h = go (inbox_time_of s) (inbox_time_of t) (time_bounded s) (time_bounded t)
  where
    go : (x y : Result Float Refusal) → Holds x (λ a. T (time_ok a)) → Holds y (λ a. T (time_ok a))
        → Bounded (and_then x (λ a. and_then y (λ b. Ok (Clock id a b))))
    go (Ok a) (Ok b) f g = (h, f, g)
    go (Ok a) (Err e) f g = g
    go (Err e) y f g = f

-- a message takes a word or more, and is bounded
abbrev BoundedFront : Front → Type 0
BoundedFront f = (1 ≤ f.size) × Bounded f.message

by_head_bounded : (d : Head) (ws : List ℕ) → BoundedHead d → Holds (by_head d ws) BoundedFront
by_head_bounded (ForCommand s) ws h =
    then_holds (due_word_of 4 (2 ^ 24) (drop 1 ws)) _ (λ v. v < 2 ^ 24) BoundedFront (due_bounded 4 (2 ^ 24) (drop 1 ws)) (λ v g. (omega arith, (h, g)))
by_head_bounded (ForSnapshot s) ws h =
    then_holds (due_word_of 4 (2 ^ 24) (drop 1 ws)) _ (λ v. v < 2 ^ 24) BoundedFront (due_bounded 4 (2 ^ 24) (drop 1 ws)) (λ v g. (omega arith, (h, g)))
by_head_bounded (ForClock id) ws h =
    then_holds (float_bits_of (drop 1 ws)) _ (λ b. Unit {0}) BoundedFront (bits_bounded (drop 1 ws))
    (λ s u. then_holds (float_bits_of (drop 4 ws)) _ (λ b. Unit {0}) BoundedFront (bits_bounded (drop 4 ws)) (λ t u'. (omega arith, clock_bounded id s t h)))

or_all_bounded : (x : Result Front Refusal) (n : ℕ) → 1 ≤ n → Holds x BoundedFront → BoundedFront (or_all x n)
or_all_bounded (Ok f) n p h = h
or_all_bounded (Err e) n p h = (p, h)

-- the first message takes a word or more, and is bounded
pub front_bounded : (w : ℕ) (ws : List ℕ) → (1 ≤ (front_of w ws).size) × Bounded (front_of w ws).message
unfolding front_of
front_bounded w ws =
    or_all_bounded _ (length (w ∷ ws)) (omega arith)
    (then_holds (head_of w) (λ d. by_head d (w ∷ ws)) BoundedHead BoundedFront (head_bounded w) (λ d h. by_head_bounded d (w ∷ ws) h))

after_bounded : (k : ℕ) (ws : List ℕ) → Each Bounded (messages_after k ws)
unfolding messages_after
after_bounded k [] = tt
after_bounded zero (w ∷ ws) = ((front_bounded w ws).1, after_bounded ((front_of w ws).size - 1) ws)
after_bounded (suc k) (w ∷ ws) = after_bounded k ws

-- every message of an inbox is bounded
pub messages_bounded : (words : List ℕ) → Each Bounded (messages_of words)
messages_bounded words = after_bounded 0 words
