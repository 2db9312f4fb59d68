-- One sample more, as the code has it: what the answers of the calls come to. Assumes nothing.
use mathlib.Core.Path.{◌≡◌, refl, sym, ap, ◌∙◌}
use mathlib.Core.List.{List, [], ◌∷◌, ◌++◌}
use mathlib.Core.Bool.{Bool, true, false, cond}
use Prim.Native.Nat.{ℕ, ◌+◌, ◌≤◌, ◌<◌, min}
use native.Mathlib.Omega.{arith}
use lib.Dec.{ltb}
use lib.ListN.{length, take, drop, set, length-append, length-take, length-drop}
use lib.Seq.{slice, take_all}
use lib.Ieee.{Float, lt, binary64, add}
use borrow.Author.Tests.{lt-ltb, le-ltb}
use Rattle.settings.specs.declared.Settings.{Settings}
use Rattle.settings.specs.Settings.{samples_to_discard_of, samples_to_store_of}
use Rattle.std.specs.Prelude.{Option, None, Some}
use Rattle.timestamp.specs.Floats.{zero64}
use Rattle.clocksync.specs.declared.Clock.{Clock}
use Rattle.clocksync.specs.declared.Ticked.{Ticked}
use Rattle.clocksync.specs.declared.Heard.{Heard}
use Rattle.mean.specs.Mean.{mean_of}
use Rattle.clocksync.specs.Clock.{laid_out, held_of, timed_of, named_of, ticked_of, offset_after}
use Rattle.clocksync.specs.Clock.{sampled_of, filled_of, added_of, pushed_of, sample_of, settled_of}
use Rattle.clocksync.proofs.Lists.{laid_push, take-laid}

-- ---- one sample more

-- clocks are equal by their parts
same_clock : {o p : Option Float} {xs ys : List Float} {m n : ℕ} (t : Float) (i : Option ℕ) → o ≡ p → xs ≡ ys → m ≡ n
    → ◌≡◌ {A = Clock} (record { offset = o; samples = xs; len = m; timer = t; id = i }) (record { offset = p; samples = ys; len = n; timer = t; id = i })
same_clock t i a b c = λ k. record { offset = a k; samples = b k; len = c k; timer = t; id = i }

module _ (s : Settings) (c : Clock) (x : Float) {n : ℕ} {laid : List Float} (full : length c.samples ≡ 64) (cut : n ≡ min c.len 63)
    (base : laid ≡ laid_out (slice 0 n c.samples)) where
  held_is : slice 0 n c.samples ≡ held_of c
  unfolding held_of
  held_is = ap (λ (k : ℕ). take k c.samples) cut

  held-length : length (held_of c) ≡ n
  unfolding held_of
  held-length = length-take (min c.len 63) c.samples ∙ omega (arith, full, cut)

  all_length : length (held_of c ++ (x ∷ [])) ≡ n + 1
  all_length = length-append (held_of c) (x ∷ []) ∙ omega (arith, held-length)

  all_is : set laid n x ≡ laid_out (held_of c ++ (x ∷ []))
  all_is =
      let h : length (held_of c) < 64 = omega (arith, held-length, cut) in
      ap (λ (l : List Float). set l n x) (base ∙ ap laid_out held_is) ∙ ap (λ (k : ℕ). set (laid_out (held_of c)) k x) (sym held-length) ∙ laid_push
      (held_of c) x h

  -- fewer than are stored
  pub added_few : {store : ℕ} → store ≡ samples_to_store_of s → n + 1 < store
      → ◌≡◌ {A = Clock} (record { offset = c.offset; samples = set laid n x; len = n + 1; timer = c.timer; id = c.id }) (added_of s c x)
  unfolding filled_of
  added_few e h =
      let xs = held_of c ++ (x ∷ []) in
      let t : ltb (length (held_of c ++ (x ∷ []))) (samples_to_store_of s) ≡ true =
      lt-ltb (length (held_of c ++ (x ∷ []))) (samples_to_store_of s) (omega (arith, all_length, e)) in
      same_clock c.timer c.id refl all_is (sym all_length)
      ∙ sym (ap (λ (b : Bool). cond b (sampled_of c c.offset xs)
      (sampled_of c (offset_after c.offset (mean_of (samples_to_discard_of s) xs) s.deviation) (drop 1 xs))) t)

  all_back : take (n + 1) (set laid n x) ≡ held_of c ++ (x ∷ [])
  all_back = ap (take (n + 1)) all_is ∙ ap (λ (k : ℕ). take k (laid_out (held_of c ++ (x ∷ [])))) (sym all_length) ∙ take-laid (held_of c ++ (x ∷ []))

  -- as many as are stored
  pub added_full : {store discard : ℕ} {mean : Float} {offset : Option Float} {rest : List Float} → store ≡ samples_to_store_of s → store ≤ n + 1
      → discard ≡ samples_to_discard_of s → mean ≡ mean_of discard (take 64 (take (n + 1) (set laid n x))) → offset ≡ offset_after c.offset mean s.deviation
      → rest ≡ laid_out (slice 1 (n + 1) (set laid n x)) → ◌≡◌ {A = Clock}
      (record { offset = offset; samples = rest; len = n; timer = c.timer; id = c.id }) (added_of s c x)
  unfolding filled_of
  added_full {store} {discard} {mean} {offset} {rest} e h d m o r =
      let xs = held_of c ++ (x ∷ []) in
      let t : ltb (length xs) (samples_to_store_of s) ≡ false = le-ltb (length xs) (samples_to_store_of s) (omega (arith, all_length, e)) in
      let M : mean ≡ mean_of (samples_to_discard_of s) xs = m ∙ ap (mean_of discard) (ap (take 64) all_back
      ∙ take_all 64 xs (omega (arith, all_length, cut))) ∙ ap (λ (k : ℕ). mean_of k xs) d in
      let O : offset ≡ offset_after c.offset (mean_of (samples_to_discard_of s) xs) s.deviation = o
      ∙ ap (λ (y : Float). offset_after c.offset y s.deviation) M in
      let R : rest ≡ laid_out (drop 1 xs) = r ∙ ap (λ (l : List Float). laid_out (drop 1 l)) all_back in
      let N : n ≡ length (drop 1 xs) = omega (arith, length-drop 1 xs, all_length) in
      same_clock c.timer c.id O R N
      ∙ sym (ap (λ (b : Bool). cond b (sampled_of c c.offset xs)
      (sampled_of c (offset_after c.offset (mean_of (samples_to_discard_of s) xs) s.deviation) (drop 1 xs))) t)

-- ---- the offset aside

-- the parts of the clock with one sample more, but for the offset
pub pushed_is : (s : Settings) (c : Clock) (x : Float) {k : Clock} → k ≡ added_of s c x
    → ◌≡◌ {A = Clock} (record { offset = c.offset; samples = k.samples; len = k.len; timer = k.timer; id = k.id }) (pushed_of s c x)
pushed_is s c x e = λ i. record { offset = c.offset; samples = (e i).samples; len = (e i).len; timer = (e i).timer; id = (e i).id }

-- the offset after a sample, by the parts that it depends on
filled_offset : (s : Settings) (c : Clock) (xs : List Float) → (filled_of s c xs).offset ≡ cond (ltb (length xs) (samples_to_store_of s)) c.offset
    (offset_after c.offset (mean_of (samples_to_discard_of s) xs) s.deviation)
unfolding filled_of
filled_offset s c xs = go (ltb (length xs) (samples_to_store_of s))
  where
    after : Option Float
    after = offset_after c.offset (mean_of (samples_to_discard_of s) xs) s.deviation

    go : (b : Bool) → (cond b (sampled_of c c.offset xs) (sampled_of c after (drop 1 xs))).offset ≡ cond b c.offset after
    go true = refl
    go false = refl

-- neither the timer nor the client's number moves it
pub offset_apart : (s : Settings) (c : Clock) (t : Float) (i : Option ℕ) (o : Option Float)
    → (sample_of s (named_of (timed_of c t) i) o).offset ≡ (sample_of s c o).offset
unfolding held_of
offset_apart s c t i None = refl
offset_apart s c t i (Some x) =
    filled_offset s (named_of (timed_of c t) i) (held_of c ++ (x ∷ []))
    ∙ sym (filled_offset s c (held_of c ++ (x ∷ [])))

-- the timer moves on
pub offset_ticked : (s : Settings) (c : Clock) (period delta : Float) (h : Heard)
    → (settled_of s (ticked_of c period delta).clock h).offset ≡ (settled_of s c h).offset
unfolding settled_of ticked_of
offset_ticked s c period delta h = go (lt period (add binary64 c.timer delta))
  where
    go : (b : Bool) → (settled_of s (cond {A = Ticked} b (record { clock = timed_of c zero64; request = true })
        (record { clock = timed_of c (add binary64 c.timer delta); request = false })).clock h).offset ≡ (settled_of s c h).offset
    go true = offset_apart s c zero64 h.id h.offset ∙ sym (offset_apart s c c.timer h.id h.offset)
    go false = offset_apart s c (add binary64 c.timer delta) h.id h.offset ∙ sym (offset_apart s c c.timer h.id h.offset)
