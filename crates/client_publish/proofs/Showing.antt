-- What the code of publishing comes to, over plain values: one rule for each return. Assumes nothing.
use mathlib.Core.Path.{◌≡◌, refl, ap, sym, ◌∙◌}
use mathlib.Core.Bool.{Bool, true, false, cond}
use mathlib.Core.List.{[], ◌∷◌}
use Prim.Native.Nat.{ℕ}
use lib.IntN.{pos}
use lib.Ieee.{Float, fin, eq}
use Rattle.timestamp.specs.declared.Timestamp.{Timestamp}
use Rattle.tape.specs.declared.Tape.{Tape}
use Rattle.tape.specs.Tape.{PutsOn}
use Rattle.tape.specs.Words.{publish_word, mix_words, none_word}
use Rattle.tape.proofs.Writing.{on_as}
use Rattle.simulation.specs.declared.Simulation.{Simulation}
use Rattle.std.specs.Prelude.{Option, Some, None}
use Rattle.client.specs.declared.ClientWorldSimulations.{ClientWorldSimulations}
use Rattle.client.specs.declared.Scene.{Scene}
use Rattle.client.specs.Sides.{new_side_of, old_side_of, world_of, world_stamp_of, old_stamp_of, Played}
use Rattle.client_publish.specs.Inner.{States}
use Rattle.client_publish.specs.Publish.{with_state, published_none, published_side, published_mix, published_old, near_one, published_both, published_blended}

-- the same by another name
states_as : {p q : Played} {s : Scene} {was now : Tape} {r : Option Timestamp} → p ≡ q → States p s was r now → States q s was r now
states_as e h = record { scene = h.scene ∙ ap (λ (x : Played). x.scene) e; puts = on_as (ap (λ (x : Played). x.words) e) h.puts }

-- nothing is published
pub none_states : (s : Scene) {was now : Tape} {word : ℕ}
    → word ≡ none_word → PutsOn was (word ∷ []) now → States (published_none s) s was None now
unfolding published_none
none_states s hw hp = record { scene = refl; puts = on_as (ap (λ (x : ℕ). x ∷ []) hw) hp }

-- the world of a side is published
pub side_states : (s : Scene) (side : ℕ) {was now : Tape} {word : ℕ} {w : Simulation} {stamp : Timestamp}
    → w ≡ world_of s.worlds side → stamp ≡ world_stamp_of w → word ≡ publish_word side → PutsOn was (word ∷ []) now
    → States (published_side s side) s was (Some stamp) now
unfolding published_side
side_states s side hw hs hd hp =
    record {
      scene = ap (λ (x : Timestamp). with_state s (Some x)) (hs ∙ ap world_stamp_of hw);
      puts = on_as (ap (λ (x : ℕ). x ∷ []) hd) hp;
    }

-- a mix is published
pub mix_states : (s : Scene) (weight : Float) {was now : Tape} {stamp : Timestamp}
    → stamp ≡ old_stamp_of s.worlds → PutsOn was (mix_words weight) now
    → States (published_mix s weight) s was (Some stamp) now
unfolding published_mix
mix_states s weight hs hp = record { scene = ap (λ (x : Timestamp). with_state s (Some x)) hs; puts = hp }

-- ---- by what is initialised

-- whether the world of a side is initialised
init_is : (w : ClientWorldSimulations) {side k : ℕ} {x : Simulation} {b : Bool} → side ≡ k → x ≡ world_of w side → x.init ≡ b → (world_of w k).init ≡ b
init_is w hs hx hb = ap (λ (n : ℕ). (world_of w n).init) (sym hs) ∙ ap (λ (x : Simulation). x.init) (sym hx) ∙ hb

module _ (s : Scene) {was now : Tape} {side : ℕ} {r : Option Timestamp} {old : Simulation} (hs : side ≡ old_side_of s.worlds)
    (ho : old ≡ world_of s.worlds side) where
  -- the old world is published where it is initialised
  pub old_shown : old.init ≡ true → States (published_side s side) s was r now → States (published_old s) s was r now
  unfolding published_old
  old_shown hb h =
      states_as (ap (published_side s) hs ∙ ap (λ (b : Bool). cond b (published_side s (old_side_of s.worlds)) (published_none s))
      (sym (init_is s.worlds hs ho hb))) h

  -- and nothing where it is not
  pub old_none : old.init ≡ false → States (published_none s) s was r now → States (published_old s) s was r now
  unfolding published_old
  old_none hb h =
      states_as (ap (λ (b : Bool). cond b (published_side s (old_side_of s.worlds)) (published_none s)) (sym (init_is s.worlds hs ho hb))) h

  -- both worlds decide where the old one is initialised
  pub blended_both : old.init ≡ true → States (published_both s) s was r now → States (published_blended s) s was r now
  unfolding published_blended
  blended_both hb h =
      states_as
      (ap (λ (b : Bool). cond b (published_both s) (cond (world_of s.worlds (new_side_of s.worlds)).init (published_side s (new_side_of s.worlds))
      (published_none s))) (sym (init_is s.worlds hs ho hb)))
      h

  -- ---- the old world is not initialised
  module _ {k : ℕ} {new : Simulation} (hf : old.init ≡ false) (hk : k ≡ new_side_of s.worlds) (hn : new ≡ world_of s.worlds k) where
    -- the new one is published where it is
    pub blended_new : new.init ≡ true → States (published_side s k) s was r now → States (published_blended s) s was r now
    unfolding published_blended
    blended_new hb h =
        states_as
        (ap (published_side s) hk
        ∙ (λ i. cond (sym (init_is s.worlds hs ho hf) i) (published_both s)
        (cond (sym (init_is s.worlds hk hn hb) i) (published_side s (new_side_of s.worlds)) (published_none s))))
        h

    -- and nothing where it is not either
    pub blended_none : new.init ≡ false → States (published_none s) s was r now → States (published_blended s) s was r now
    unfolding published_blended
    blended_none hb h =
        states_as (λ i. cond (sym (init_is s.worlds hs ho hf) i) (published_both s)
        (cond (sym (init_is s.worlds hk hn hb) i) (published_side s (new_side_of s.worlds)) (published_none s))) h

-- ---- by the weight

-- the three ways of publishing where both worlds are initialised
abbrev both_by : Scene → Bool → Bool → Played
both_by s z n = cond z (published_side s (old_side_of s.worlds)) (cond n (published_side s (new_side_of s.worlds)) (published_mix s s.worlds.weight))

module _ (s : Scene) {was now : Tape} {r : Option Timestamp} {none : Float} (hz : none ≡ fin false 0 (pos 0)) where
  -- weight 0
  pub both_old : {side : ℕ} → eq s.worlds.weight none ≡ true → side ≡ old_side_of s.worlds → States (published_side s side) s was r now
      → States (published_both s) s was r now
  unfolding published_both
  both_old he hs h =
      states_as (ap (published_side s) hs ∙ ap (λ (b : Bool). both_by s b (near_one s.worlds.weight)) (sym he)
      ∙ ap (λ (x : Float). both_by s (eq s.worlds.weight x) (near_one s.worlds.weight)) hz) h

  module _ {near : Bool} (he : eq s.worlds.weight none ≡ false) (hn : near ≡ near_one s.worlds.weight) where
    -- weight near 1
    pub both_new : {side : ℕ} → near ≡ true → side ≡ new_side_of s.worlds → States (published_side s side) s was r now
        → States (published_both s) s was r now
    unfolding published_both
    both_new ht hs h =
        states_as (ap (published_side s) hs ∙ (λ i. both_by s (sym he i) ((sym ht ∙ hn) i))
        ∙ ap (λ (x : Float). both_by s (eq s.worlds.weight x) (near_one s.worlds.weight)) hz) h

    -- any other weight
    pub both_mix : near ≡ false → States (published_mix s s.worlds.weight) s was r now → States (published_both s) s was r now
    unfolding published_both
    both_mix hf h =
        states_as ((λ i. both_by s (sym he i) ((sym hf ∙ hn) i)) ∙ ap (λ (x : Float). both_by s (eq s.worlds.weight x) (near_one s.worlds.weight)) hz) h
