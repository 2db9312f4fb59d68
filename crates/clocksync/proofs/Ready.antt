-- Offset and client number: a clock that is ready stays ready, and the update that gives the first offset also has the client's number. Assumes nothing.
use Prim.Native.Nat.{ℕ}
use mathlib.Core.Path.{◌≡◌, refl, sym, ap, ◌∙◌}
use mathlib.Core.List.{[], ◌∷◌, ◌++◌}
use mathlib.Core.Bool.{Bool, true, false, cond, false≢true}
use lib.Dec.{ltb}
use lib.ListN.{length, drop}
use lib.Ieee.{Float, lt, binary64, add}
use Rattle.settings.specs.declared.Settings.{Settings}
use Rattle.settings.specs.Settings.{samples_to_discard_of, samples_to_store_of}
use Rattle.mean.specs.Mean.{mean_of}
use Rattle.timestamp.specs.Floats.{zero64}
use Rattle.clocksync.specs.Clock.{held_of, timed_of, ticked_of, first_of, heard_of, deviates_of, offset_after, sampled_of, filled_of, added_of, named_of}
use Rattle.clocksync.specs.Clock.{sample_of}
use Rattle.clocksync.specs.Clock.{settled_of, both_of, ready_of}
use Rattle.std.specs.Prelude.{Option, Some, None, is_some}
use Rattle.clocksync.specs.declared.Clock.{Clock}
use Rattle.clocksync.specs.declared.Ticked.{Ticked}
use Rattle.clocksync.specs.declared.Heard.{Heard}

-- both, as `ready_of_lem` has it
both_ready : (o : Option Float) (i : Option ℕ) → is_some o ≡ true → is_some i ≡ true → both_of o i ≡ true
both_ready None i h k = absurd (false≢true h)
both_ready (Some x) None h k = absurd (false≢true k)
both_ready (Some x) (Some n) h k = refl

ready_offset : (o : Option Float) (i : Option ℕ) → both_of o i ≡ true → is_some o ≡ true
ready_offset None i h = h
ready_offset (Some x) i h = refl

pub ready_id : (o : Option Float) (i : Option ℕ) → both_of o i ≡ true → is_some i ≡ true
ready_id None i h = absurd (false≢true h)
ready_id (Some x) None h = h
ready_id (Some x) (Some n) h = refl

-- ---- through a message

-- a message brings a number where there was none
pub heard_id : (seconds : Float) (h : Heard) (number : ℕ) (send server : Float) → is_some (heard_of seconds h number send server).id ≡ true
unfolding heard_of
heard_id seconds h number send server = go h.id
  where
    go : (i : Option ℕ) → is_some (first_of i number) ≡ true
    go None = refl
    go (Some n) = refl

-- ---- through a sample

synced_keeps : (o : Option Float) (mean deviation : Float) → is_some (offset_after o mean deviation) ≡ true
synced_keeps None mean deviation = refl
synced_keeps (Some x) mean deviation = go (deviates_of mean x deviation)
  where
    go : (b : Bool) → is_some (cond b (Some mean) (Some x)) ≡ true
    go true = refl
    go false = refl

-- an offset is kept, and the number is the one that was heard
added_keeps : (s : Settings) (c : Clock) (x : Float) → is_some c.offset ≡ true → is_some (added_of s c x).offset ≡ true
unfolding filled_of
added_keeps s c x h = go (ltb (length (held_of c ++ (x ∷ []))) (samples_to_store_of s))
  where
    go : (b : Bool) → is_some (cond {A = Clock} b (sampled_of c c.offset (held_of c ++ (x ∷ [])))
        (sampled_of c (offset_after c.offset (mean_of (samples_to_discard_of s) (held_of c ++ (x ∷ []))) s.deviation)
        (drop 1 (held_of c ++ (x ∷ []))))).offset ≡ true
    go true = h
    go false = synced_keeps c.offset (mean_of (samples_to_discard_of s) (held_of c ++ (x ∷ []))) s.deviation

added_id : (s : Settings) (c : Clock) (x : Float) → (added_of s c x).id ≡ c.id
unfolding filled_of
added_id s c x = go (ltb (length (held_of c ++ (x ∷ []))) (samples_to_store_of s))
  where
    go : (b : Bool) → (cond {A = Clock} b (sampled_of c c.offset (held_of c ++ (x ∷ [])))
        (sampled_of c (offset_after c.offset (mean_of (samples_to_discard_of s) (held_of c ++ (x ∷ []))) s.deviation)
        (drop 1 (held_of c ++ (x ∷ []))))).id ≡ c.id
    go true = refl
    go false = refl

settled_id : (s : Settings) (c : Clock) (h : Heard) → (settled_of s c h).id ≡ h.id
unfolding settled_of
settled_id s c h = go h.offset
  where
    go : (o : Option Float) → (sample_of s (named_of c h.id) o).id ≡ h.id
    go None = refl
    go (Some x) = added_id s (named_of c h.id) x

settled_keeps : (s : Settings) (c : Clock) (h : Heard) → is_some c.offset ≡ true → is_some (settled_of s c h).offset ≡ true
unfolding settled_of
settled_keeps s c h k = go h.offset
  where
    go : (o : Option Float) → is_some (sample_of s (named_of c h.id) o).offset ≡ true
    go None = k
    go (Some x) = added_keeps s (named_of c h.id) x k

-- without a message no offset appears
settled_none : (s : Settings) (c : Clock) (h : Heard) → c.offset ≡ None → is_some (settled_of s c h).offset ≡ true → is_some h.offset ≡ true
unfolding settled_of
settled_none s c h e = go h.offset
  where
    go : (o : Option Float) → is_some (sample_of s (named_of c h.id) o).offset ≡ true → is_some o ≡ true
    go None k = absurd (false≢true (sym (ap is_some e) ∙ k))
    go (Some x) k = refl

-- ---- through the tick

module _ (c : Clock) (period delta : Float) where
  ticked_offset : (ticked_of c period delta).clock.offset ≡ c.offset
  unfolding ticked_of
  ticked_offset = go (lt period (add binary64 c.timer delta)) (add binary64 c.timer delta)
    where
      go : (b : Bool) (t : Float) → (cond {A = Ticked} b (record { clock = timed_of c zero64; request = true })
          (record { clock = timed_of c t; request = false })).clock.offset ≡ c.offset
      go true t = refl
      go false t = refl

-- ---- the laws

module _ (s : Settings) (c : Clock) (delta : Float) (h : Heard) where
  -- a clock that is ready is ready after an update, where the number is still known
  pub ready_stays : ready_of c ≡ true → is_some h.id ≡ true → ready_of (settled_of s (ticked_of c s.period delta).clock h) ≡ true
  ready_stays r k =
      let t = (ticked_of c s.period delta).clock in
      both_ready (settled_of s t h).offset (settled_of s t h).id
      (settled_keeps s t h (ap is_some (ticked_offset c s.period delta) ∙ ready_offset c.offset c.id r))
      (ap is_some (settled_id s t h) ∙ k)

  -- an update that gives a clock its first offset leaves it ready, where an offset that is heard comes with a number
  pub first_offset_ready : c.offset ≡ None → (is_some h.offset ≡ true → is_some h.id ≡ true) →
      is_some (settled_of s (ticked_of c s.period delta).clock h).offset ≡ true → ready_of (settled_of s (ticked_of c s.period delta).clock h) ≡ true
  first_offset_ready e k o =
      let t = (ticked_of c s.period delta).clock in
      both_ready (settled_of s t h).offset (settled_of s t h).id o
      (ap is_some (settled_id s t h) ∙ k (settled_none s t h (ticked_offset c s.period delta ∙ e) o))
