-- A buffer that takes the entries of another that pass a test, one after the other: what its loop keeps. Assumes nothing.
use mathlib.Core.Path.{◌≡◌}
use mathlib.Core.List.{List, [], ◌∷◌, ◌++◌, append_assoc}
use mathlib.Core.Bool.{Bool, true, false}
use Prim.Native.Nat.{ℕ, ◌+◌, ◌≤◌, ◌<◌}
use native.Mathlib.Omega.{arith}
use lib.ListN.{length, take, get_or, length-append}
use Rattle.std.proofs.lemmas.List.{take_all}
use Rattle.command.specs.Entries.{Entry}
use Rattle.command.specs.declared.CommandBuffer.{CommandBuffer}
use Rattle.command.specs.Lists.{filter_b}
use Rattle.command.specs.Buffer.{held, laid}
use Rattle.command.proofs.Lists.{filter_took, filter-left, filter_grows}
use Rattle.command.proofs.Holding.{held_of, clean, laid_then}

-- b is a with those of the first i items that pass p
pub record Extended (a : CommandBuffer) (p : Entry → Bool) (items : List Entry) (i : ℕ) (b : CommandBuffer) : Type 0 where
  pub whole : b ≡ laid (held a ++ filter_b p (take i items)) a.timestamp

module _ {a b : CommandBuffer} {p : Entry → Bool} {items : List Entry} {i : ℕ} (s : Extended a p items i b) where
  module _ (d : Entry) (h : i < length items) where
    pub extended_room : p (get_or items i d) ≡ true → length (held a) + length (filter_b p items) ≤ 64
        → (b ≡ laid (held b) b.timestamp) × (length (held b) + 1 ≤ 64)
    extended_room e room =
        let more : length (filter_b p (take (i + 1) items)) ≤ length (filter_b p (take (length items) items)) =
        filter_grows p items (i + 1) (length items) (omega arith) in
        let whole : take (length items) items ≡ items = take_all (length items) items (omega arith) in
        let one : length (filter_b p (take (i + 1) items)) ≡ length (filter_b p (take i items)) + 1 =
        rw (filter_took p items i d h e) (simp length-append) in
        (clean _ _ s.whole, rw (held_of _ _ s.whole) (simp length-append (omega (arith, rw whole at more, one, room))))

    pub extended_push : p (get_or items i d) ≡ true → {c : CommandBuffer} → c ≡ laid (held b ++ (get_or items i d ∷ [])) b.timestamp
        → Extended a p items (i + 1) c
    extended_push e f = record { whole = rw (filter_took p items i d h e, ← append_assoc (held a)) (laid_then _ _ _ s.whole f) }

    pub extended_skip : p (get_or items i d) ≡ false → Extended a p items (i + 1) b
    extended_skip e = record { whole = rw (filter-left p items i d h e) s.whole }
