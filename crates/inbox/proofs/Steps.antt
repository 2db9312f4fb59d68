-- The bits of a float and the step from a place, by the places of the words that are read; and what `step_of` gives is what `read_at` reads.
-- Assumes nothing.
use Rattle.std.proofs.Common.{◌≡◌, ℕ, ◌+◌, ◌<◌, List, length, drop, get_or, refl, sym, ap, ◌∙◌, arith, length-drop, drop-cons, Result, Ok, Err}
use lib.Seq.{drop-drop}
use Prim.Native.Nat.{◌^◌}
use Rattle.refusals.specs.declared.Refusal.{Refusal}
use Rattle.inbox.specs.declared.Head.{Head}
use Rattle.inbox.specs.declared.Head.TheVariants.{ForClock}
use Rattle.inbox.specs.declared.Step.{Step}
use Rattle.inbox.specs.Inbox.{and_then, due_word_of, head_of, joined_of, float_bits_of, clock_of, Front, front_with, by_head, or_all, front_of}
use Rattle.inbox.specs.Inbox.{step_by, step_in, read_at}
use Rattle.inbox.specs.Inner.{step_of}

module _ (l : List ℕ) (at : ℕ) where
  -- the three words of a float stand at a place and the two after it
  pub bits_by : float_bits_of (drop at l)
      ≡ and_then (due_word_of 5 (2 ^ 8) (drop at l)) (λ high. and_then (due_word_of 5 (2 ^ 28) (drop (at + 1) l))
      (λ middle. and_then (due_word_of 5 (2 ^ 28) (drop (at + 2) l)) (λ low. Ok (joined_of high middle low))))
  unfolding float_bits_of
  bits_by = rw (drop-drop 1 at l, drop-drop 2 at l) refl

  -- the two times of a clock message stand a word and four after its first
  pub clock_by : (id : ℕ) → by_head (ForClock id) (drop at l)
      ≡ and_then (float_bits_of (drop (at + 1) l))
      (λ send. and_then (float_bits_of (drop (at + 4) l)) (λ server. Ok (front_with (clock_of id send server) 7)))
  clock_by id = rw (drop-drop 1 at l, drop-drop 4 at l) refl

-- no message, and the place n
abbrev pub ended_at : Refusal → ℕ → Step
ended_at r n = record { message = Err r; next = n }

-- a step, or a refusal at the place n
abbrev or_end : Result Step Refusal → ℕ → Step
or_end (Ok s) n = s
or_end (Err r) n = ended_at r n

-- a front, or all the words there are, as a step
ended : (x : Result Front Refusal) (at n m : ℕ) → m ≡ at + n → or_end (and_then x (λ f. Ok (step_by at f))) m ≡ step_by at (or_all x n)
ended (Ok f) at n m e = refl
ended (Err r) at n m e = ap (ended_at r) e

-- the same, after the first word
ended_by : (x : Result Head Refusal) (k : Head → Result Front Refusal) (at n m : ℕ) → m ≡ at + n
    → or_end (and_then x (λ d. and_then (k d) (λ f. Ok (step_by at f)))) m ≡ step_by at (or_all (and_then x k) n)
ended_by (Ok d) k at n m e = ended (k d) at n m e
ended_by (Err r) k at n m e = ap (ended_at r) e

module _ (l : List ℕ) (at : ℕ) (h : at < length l) where
  -- the step from a place, or the refusal that ends the words, is what is read there
  read_by : or_end (step_of l at) (length l) ≡ read_at l at
  unfolding read_at front_of
  read_by =
      let e = drop-cons l at 0 h in
      let whole : length l ≡ at + length (drop at l) = rw length-drop (omega arith) in
      ended_by (head_of (get_or l at 0)) (λ d. by_head d (drop at l)) at (length (drop at l)) (length l) whole
      ∙ ap (λ (ws : List ℕ). step_by at (or_all (and_then (head_of (get_or l at 0)) (λ d. by_head d ws)) (length ws))) e
      ∙ sym (ap (step_in at) e)

  -- the step
  pub read_ok : (s : Step) → Ok s ≡ step_of l at → s ≡ read_at l at
  read_ok s e = ap (λ (x : Result Step Refusal). or_end x (length l)) e ∙ read_by

  -- the refusal
  pub read_err : (r : Refusal) → Err r ≡ step_of l at → ended_at r (length l) ≡ read_at l at
  read_err r e = ap (λ (x : Result Step Refusal). or_end x (length l)) e ∙ read_by
