-- A buffer and the list of its entries: what is held once a list is laid out, what a loop over the slots has passed, and what stays where some go. Assumes
-- nothing.
use mathlib.Core.Path.{◌≡◌, refl, sym, ap, ◌∙◌}
use mathlib.Core.List.{List, [], ◌∷◌, ◌++◌}
use Prim.Native.Nat.{ℕ, ◌≤◌, ◌<◌}
use native.Mathlib.Omega.{arith}
use lib.ListN.{length, length-take}
use lib.Seq.{take-append_seam}
use Rattle.timestamp.specs.declared.Timestamp.{Timestamp}
use Rattle.command.specs.Entries.{Entry}
use Rattle.command.specs.declared.CommandBuffer.{CommandBuffer}
use Rattle.command.specs.Buffer.{held, blank, laid, leaving}
use Rattle.command.proofs.Lists.{InSlots}

-- the entries of a buffer that is laid out are those that it was laid out from
pub held_laid : (xs : List Entry) (t : Timestamp) → held (laid xs t) ≡ xs
unfolding laid
held_laid xs t = take-append_seam xs _

-- its midpoint
pub stamp_laid : (xs : List Entry) (t : Timestamp) → (laid xs t).timestamp ≡ t
unfolding laid
stamp_laid xs t = refl

-- its count
pub len_laid : (xs : List Entry) (t : Timestamp) → (laid xs t).len ≡ length xs
unfolding laid
len_laid xs t = refl

-- no more are held than the count says, nor than there are slots
pub held_len : (b : CommandBuffer) → length (held b) ≤ b.len
held_len b = simp length-take (omega arith)

pub held_few : (b : CommandBuffer) → length b.entries ≡ 64 → length (held b) ≤ 64
held_few b slots = simp length-take (omega arith)

pub held_below : (b : CommandBuffer) → b.len < 64 → length (held b) < 64
held_below b h = simp length-take (omega arith)

pub held_full : (b : CommandBuffer) → length b.entries ≡ 64 → 64 ≤ b.len → 64 ≤ length (held b)
held_full b slots h = simp length-take (omega arith)

-- a buffer that is laid out whole, and back
pub as_laid : (b : CommandBuffer) → b ≡ laid (held b) b.timestamp → InSlots 64 blank (held b) b.entries b.len
unfolding laid
as_laid b e = record { slots = ap (λ (r : CommandBuffer). r.entries) e; count = ap (λ (r : CommandBuffer). r.len) e }

pub is_laid : {xs out : List Entry} {k : ℕ} (t : Timestamp) → InSlots 64 blank xs out k
    → ◌≡◌ {A = CommandBuffer} (record { entries = out; len = k; timestamp = t }) (laid xs t)
unfolding laid
is_laid t l = rw (l.slots, l.count)

-- what is known of a buffer that is laid out
module _ {b : CommandBuffer} (xs : List Entry) (t : Timestamp) (e : b ≡ laid xs t) where
  pub held_of : held b ≡ xs
  held_of = ap held e ∙ held_laid xs t

  pub stamp_of_lem : b.timestamp ≡ t
  stamp_of_lem = ap (λ (r : CommandBuffer). r.timestamp) e ∙ stamp_laid xs t

  pub clean : b ≡ laid (held b) b.timestamp
  clean = e ∙ sym (ap (λ (ys : List Entry). laid ys b.timestamp) held_of ∙ ap (λ (s : Timestamp). laid xs s) stamp_of_lem)

-- the entries ys after those of a buffer that holds xs
pub laid_then : {q p : CommandBuffer} (xs ys : List Entry) (t : Timestamp) → q ≡ laid xs t → p ≡ laid (held q ++ ys) q.timestamp → p ≡ laid (xs ++ ys) t
laid_then xs ys t e f = rw (held_of xs t e, stamp_of_lem xs t e) at f

-- ---- a buffer of whose entries some go

-- what is held is what is left
pub held_leaving : (gone left : List Entry) (b : CommandBuffer) → (gone ≡ [] → held b ≡ left) → held (leaving gone left b) ≡ left
unfolding leaving
held_leaving [] left b h = h refl
held_leaving (x ∷ gone) left b h = held_laid left b.timestamp

-- the midpoint stays
pub stamp_leaving : (gone left : List Entry) (b : CommandBuffer) → (leaving gone left b).timestamp ≡ b.timestamp
unfolding leaving
stamp_leaving [] left b = refl
stamp_leaving (x ∷ gone) left b = stamp_laid left b.timestamp

-- none go
pub leaving_none : (gone left : List Entry) (b : CommandBuffer) → length gone ≡ 0 → b ≡ leaving gone left b
unfolding leaving
leaving_none [] left b h = refl
leaving_none (x ∷ gone) left b h = absurd (omega arith)

-- some go
pub leaving_some : (gone left : List Entry) (b : CommandBuffer) → (length gone ≡ 0 → ⊥) → laid left b.timestamp ≡ leaving gone left b
unfolding leaving
leaving_some [] left b h = absurd (h refl)
leaving_some (x ∷ gone) left b h = refl
