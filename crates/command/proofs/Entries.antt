-- An entry made of a stamp and a handle has that stamp and that handle, and no spare bit set. Assumes nothing.
use mathlib.Core.Path.{◌≡◌}
use mathlib.Core.Bool.{true}
use Prim.Native.Nat.{ℕ, ◌+◌, ◌*◌, ◌%◌, ◌^◌, ◌<◌}
use native.Mathlib.Omega.{arith}
use borrow.Author.Tests.{lt-ltb}
use Rattle.timestamp.specs.declared.Timestamp.{Timestamp}
use Rattle.timestamp.proofs.Tests.{both}
use Rattle.command.specs.Entries.{entry_of, stamp_in, handle_in, plain_entry}

module _ (t : Timestamp) (h : ℕ) (few : t.0 < 2 ^ 16) where
  pub entry_stamp : h < 2 ^ 32 → stamp_in (entry_of t h) ≡ t.0
  unfolding stamp_in entry_of
  entry_stamp small = omega arith

  pub entry_plain : h < 2 ^ 24 → plain_entry (entry_of t h) ≡ true
  unfolding plain_entry entry_of handle_in
  entry_plain small = both (lt-ltb (t.0 * 2 ^ 32 + h) (2 ^ 48) (omega arith)) (lt-ltb ((t.0 * 2 ^ 32 + h) % 2 ^ 32) (2 ^ 24) (omega arith))

pub entry_handle : (t : Timestamp) (h : ℕ) → h < 2 ^ 32 → handle_in (entry_of t h) ≡ h
unfolding handle_in entry_of
entry_handle t h small = omega arith
