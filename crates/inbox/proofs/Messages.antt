-- Along a list of words: the message at a place is the next of the list of messages, and the list goes on at the place after it. Assumes nothing.
use mathlib.Core.Path.{◌≡◌, refl, sym, ap, ◌∙◌}
use mathlib.Core.List.{List, [], ◌∷◌}
use Prim.Native.Nat.{ℕ, zero, suc, ◌+◌, ◌-◌, ◌<◌, ◌≤◌}
use native.Mathlib.Omega.{arith}
use lib.ListN.{length, drop, get_or, drop_of_length-le}
use lib.Seq.{drop-cons, drop-drop}
use Rattle.inbox.specs.declared.Step.{Step}
use Rattle.inbox.specs.Inbox.{front_of, messages_after, messages_of}
use Rattle.inbox.specs.Inbox.{step_by, step_in, read_at}
use Rattle.inbox.proofs.Bounds.{front_bounded}

-- words that belong to the message before are passed over
skipped : (k : ℕ) (ws : List ℕ) → messages_after k ws ≡ messages_of (drop k ws)
unfolding messages_after
skipped zero ws = refl
skipped (suc k) [] = refl
skipped (suc k) (w ∷ ws) = skipped k ws

-- ---- at a place of a list
module _ (l : List ℕ) (at : ℕ) (h : at < length l) where
  abbrev w : ℕ
  w = get_or l at 0

  abbrev ws : List ℕ
  ws = drop (suc at) l

  here : step_by at (front_of w ws) ≡ read_at l at
  unfolding read_at
  here = sym (ap (step_in at) (drop-cons l at 0 h))

  -- the messages from a place on are the message at it, and then those from the next place on
  pub messages_next : messages_of (drop at l) ≡ (read_at l at).message ∷ messages_of (drop (read_at l at).next l)
  unfolding messages_after
  messages_next =
      let n : suc at + ((front_of w ws).size - 1) ≡ (read_at l at).next = omega (arith, ap (λ (s : Step). s.next) here, (front_bounded w ws).0) in
      let e : messages_after ((front_of w ws).size - 1) ws ≡ messages_of (drop (read_at l at).next l) =
      skipped ((front_of w ws).size - 1) ws ∙ ap messages_of (drop-drop ((front_of w ws).size - 1) (suc at) l ∙ ap (λ (k : ℕ). drop k l) n) in
      ap messages_of (drop-cons l at 0 h) ∙ (λ i. (here i).message ∷ e i)

-- the same, by the step that was read
pub messages_step : (l : List ℕ) (at : ℕ) (s : Step) → at < length l → s ≡ read_at l at → messages_of (drop at l) ≡ s.message ∷ messages_of (drop s.next l)
messages_step l at s h e = messages_next l at h ∙ ap (λ (x : Step). x.message ∷ messages_of (drop x.next l)) (sym e)

-- from the end on there is none
pub messages_end : (l : List ℕ) (at : ℕ) → length l ≤ at → messages_of (drop at l) ≡ []
unfolding messages_after
messages_end l at h = ap messages_of (drop_of_length-le l h)
