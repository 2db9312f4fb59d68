-- What the code of a skip comes to, over plain values: one rule for each return. Assumes nothing.
use Rattle.std.specs.Ordering.{is_lt}
use mathlib.Core.Path.{◌≡◌, ap, sym, ◌∙◌}
use mathlib.Core.Bool.{Bool, true, false, cond}
use Prim.Native.Nat.{ℕ}
use lib.Dec.{eqb}
use Rattle.timestamp.specs.declared.Timestamp.{Timestamp}
use Rattle.std.specs.declared.cmp.Ordering.{Ordering}
use Rattle.timestamp.specs.Timestamps.{order_of}
use Rattle.tape.specs.declared.Tape.{Tape}
use Rattle.command.specs.declared.CommandBuffer.{CommandBuffer}
use Rattle.command.specs.Buffer.{Drained, drained_all_of}
use Rattle.simulation.specs.World.{reset_of}
use Rattle.client.specs.declared.Scene.{Scene}
use Rattle.client.specs.Sides.{new_side_of, old_side_of, world_of, with_base, with_worlds, old_stamp_of, new_stamp_of, still, done_at, Plays}
use Rattle.client_skip.specs.Skip.{reset_side, reset_along, skips_back, emptied_base, reset_both, skipped_of}
use Rattle.client.proofs.Happening.{plays_still, plays_as, plays_then}

-- ---- a skip

module _ (s : Scene) (t : Timestamp) {was : Tape} {old new : Timestamp} (ho : old ≡ old_stamp_of s.worlds)
    (hn : new ≡ new_stamp_of s.worlds) where
  -- the new world goes along where the stamps are equal
  pub along_plays : {now : Tape} {side : ℕ} {u : Scene} → eqb new.0 old.0 ≡ true → side ≡ new_side_of s.worlds
      → Plays (done_at s side (reset_of (world_of s.worlds side) t side)) was u now → Plays (reset_along s t) was u now
  unfolding reset_along reset_side
  along_plays he hs h =
      let b : eqb (new_stamp_of s.worlds).0 (old_stamp_of s.worlds).0 ≡ true = (λ i. eqb (sym hn i).0 (sym ho i).0) ∙ he in
      plays_as (ap (λ (n : ℕ). reset_side s n t) hs ∙ ap (λ (x : Bool). cond x (reset_side s (new_side_of s.worlds) t) (still s)) (sym b)) h

  -- and stays where they are not
  pub along_stays : eqb new.0 old.0 ≡ false → Plays (reset_along s t) was s was
  unfolding reset_along
  along_stays he =
      let b : eqb (new_stamp_of s.worlds).0 (old_stamp_of s.worlds).0 ≡ false = (λ i. eqb (sym hn i).0 (sym ho i).0) ∙ he in
      plays_as (ap (λ (x : Bool). cond x (reset_side s (new_side_of s.worlds) t) (still s)) (sym b)) (plays_still s was)

-- the order of the stamps tells whether a skip goes back
pub skips_is : (t old : Timestamp) {o : Ordering} → o ≡ order_of t.0 old.0 → is_lt o ≡ skips_back t old
unfolding skips_back
skips_is t old h = ap is_lt h

-- the base is emptied by a skip back
pub emptied_is : (s : Scene) {back : Bool} {b : CommandBuffer} {n : ℕ} → back ≡ true
    → ◌≡◌ {A = Drained} (record { buffer = b; count = n }) (drained_all_of s.worlds.base)
    → with_worlds s (with_base s.worlds b) ≡ emptied_base back s
emptied_is s hb hd = ap (λ (x : Drained). with_worlds s (with_base s.worlds x.buffer)) hd ∙ ap (λ (b : Bool). emptied_base b s) (sym hb)

-- a skip
pub skip_plays : (s : Scene) (t : Timestamp) {was mid now : Tape} {side : ℕ} {old : Timestamp} {a b u : Scene} {back : Bool}
    → old ≡ old_stamp_of s.worlds → Plays (reset_along s t) was a mid → side ≡ old_side_of s.worlds
    → Plays (done_at a side (reset_of (world_of a.worlds side) t side)) mid b now
    → back ≡ skips_back t old → u ≡ emptied_base back b → Plays (skipped_of s t) was u now
unfolding skipped_of reset_both reset_side
skip_plays s t {was} {mid} {now} {side} {old} {a} {b} ho h hs k hb hu =
    let both : Plays (reset_both s t) was b now = plays_then (λ (x : Scene). reset_side x (old_side_of s.worlds) t) h
    (plays_as (ap (λ (n : ℕ). reset_side a n t) hs) k) in
    record {
      scene = hu ∙ (λ i. emptied_base ((hb ∙ ap (skips_back t) ho) i) (both.scene i));
      puts = both.puts;
    }
