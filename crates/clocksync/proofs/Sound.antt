-- A sound clock stays sound: with settings that pass, a delta within 3,600 and times within 2^32, an update leaves the clock with fewer samples than are
-- stored, samples and offset within 2^33, and the timer finite and at most 3,600. Assumes nothing.
use mathlib.Core.Path.{◌≡◌, refl, sym, ap, ◌∙◌, subst}
use mathlib.Core.List.{List, [], ◌∷◌, ◌++◌}
use mathlib.Core.Bool.{Bool, true, false, cond, not, ◌&&◌}
use Prim.Native.Nat.{ℕ, zero, suc, ◌+◌, ◌-◌, ◌^◌, ◌≤◌, ◌<◌, min}
use native.Mathlib.Omega.{arith}
use lib.IntN.{pos}
use lib.Dec.{T, ltb, leb, lit≤}
use lib.ListN.{length, take, drop, length-append, length-take, length-drop}
use lib.Ieee.{Float, fin, binary64, fits, lt, le, eq, add, div, of_int}
use lib.Ieee.Bits.{is_true}
use lib.Ieee.Fits.{add-fits}
use lib.Ieee.Scale.{finite}
use borrow.Author.Tests.{lt-ltb, ltb-true, ltb-false, le-leb, leb-true}
use Rattle.float_laws.specs.Bounds.{Within}
use Rattle.float_laws.proofs.Order.{float_le_trans, float_le_of_not_lt, between_finite}
use Rattle.float_laws.proofs.Within.{within_widen, within_of_tests, tests_of_within}
use Rattle.float_laws.proofs.Clock.{AllWithin, sum_up, mean_within, offset_within, add_finite}
use Rattle.settings.specs.declared.Settings.{Settings}
use Rattle.settings.specs.Settings.{samples_to_discard_of, samples_to_store_of, passes_of}
use Rattle.timestamp.specs.Floats.{hour64, zero64, sample_ok}
use Rattle.timestamp.proofs.Tests.{apart, both}
use Rattle.settings.proofs.Limits.{Limited, period_within, discard_few, store_few, samples_pass_lem}
use Rattle.settings.proofs.Few.{needed_range}
use Rattle.clocksync.specs.Offset.{offset_of}
use Rattle.mean.specs.Mean.{sample_inserted, sorted_onto, sorted_of, inner_of, sum_from, average_of, mean_of, samples_ok}
use Rattle.clocksync.specs.Clock.{held_of, new_of, timed_of, ticked_of, deviates_of, offset_after, sampled_of, filled_of, added_of, named_of, sample_of}
use Rattle.clocksync.specs.Clock.{settled_of}
use Rattle.clocksync.specs.Clock.{timer_ok, offset_ok, sound_clock}
use Rattle.std.specs.Prelude.{Option, Some, None}
use Rattle.clocksync.specs.declared.Clock.{Clock}
use Rattle.clocksync.specs.declared.Ticked.{Ticked}
use Rattle.clocksync.specs.declared.Heard.{Heard}
use Rattle.clocksync.proofs.Lists.{take-laid}
use Rattle.mean.proofs.Means.{sorted_length}

is : (b : Bool) → b ≡ true → T b
is b p = subst T (sym p) tt

-- ---- samples within 2^33, by the test and by the number

-- the test says that a sample is within 2^33
pub sample_within : (x : Float) → sample_ok x ≡ true → Within x (2 ^ 33)
sample_within x h =
    let a = apart (le (fin true 1 (pos 33)) x) (le x (fin false 1 (pos 33))) h in
    let l = is _ a.0 in
    let u = is _ a.1 in
    within_of_tests x (fin true 1 (pos 33)) (fin false 1 (pos 33)) (2 ^ 33) (between_finite (fin true 1 (pos 33)) x (fin false 1 (pos 33)) tt tt l u)
    (refl, refl) (refl, refl) l u

-- and a sample within 2^33 passes it
pub sample_passes : (x : Float) → Within x (2 ^ 33) → sample_ok x ≡ true
sample_passes x w =
    let t = tests_of_within x (fin true 1 (pos 33)) (fin false 1 (pos 33)) (2 ^ 33) (refl, refl) (refl, refl) w in
    both (is_true (le (fin true 1 (pos 33)) x) t.1) (is_true (le x (fin false 1 (pos 33))) t.2)

pub samples_within : (xs : List Float) → samples_ok xs ≡ true → AllWithin (2 ^ 33) xs
unfolding samples_ok
samples_within [] h = tt
samples_within (x ∷ xs) h = let a = apart (sample_ok x) (samples_ok xs) h in (sample_within x a.0, samples_within xs a.1)

pub samples_pass_all : (xs : List Float) → AllWithin (2 ^ 33) xs → samples_ok xs ≡ true
unfolding samples_ok
samples_pass_all [] w = refl
samples_pass_all (x ∷ xs) w = ap (λ (b : Bool). b && samples_ok xs) (sample_passes x w.0) ∙ samples_pass_all xs w.1

-- ---- what keeps every sample within

within_snoc : (n : ℕ) (xs : List Float) (x : Float) → AllWithin n xs → Within x n → AllWithin n (xs ++ (x ∷ []))
within_snoc n [] x a w = (w, tt)
within_snoc n (y ∷ xs) x a w = (a.0, within_snoc n xs x a.1 w)

within_take : (n k : ℕ) (xs : List Float) → AllWithin n xs → AllWithin n (take k xs)
within_take n zero xs a = tt
within_take n (suc k) [] a = tt
within_take n (suc k) (x ∷ xs) a = (a.0, within_take n k xs a.1)

within_drop : (n k : ℕ) (xs : List Float) → AllWithin n xs → AllWithin n (drop k xs)
within_drop n zero xs a = a
within_drop n (suc k) [] a = tt
within_drop n (suc k) (x ∷ xs) a = within_drop n k xs a.1

within_inserted : (n : ℕ) (x : Float) (ys : List Float) → Within x n → AllWithin n ys → AllWithin n (sample_inserted x ys)
unfolding sample_inserted
within_inserted n x [] w a = (w, tt)
within_inserted n x (y ∷ ys) w a = go (lt x y) (within_inserted n x ys w a.1)
  where
    go : (b : Bool) → AllWithin n (sample_inserted x ys) → AllWithin n (cond b (x ∷ y ∷ ys) (y ∷ sample_inserted x ys))
    go true r = (w, (a.0, a.1))
    go false r = (a.0, r)

within_onto : (n : ℕ) (ys xs : List Float) → AllWithin n ys → AllWithin n xs → AllWithin n (sorted_onto ys xs)
unfolding sorted_onto
within_onto n ys [] a b = a
within_onto n ys (x ∷ xs) a b = within_onto n (sample_inserted x ys) xs (within_inserted n x ys b.0 a) b.1

-- sorting keeps the samples within
pub within_sorted : (n : ℕ) (xs : List Float) → AllWithin n xs → AllWithin n (sorted_of xs)
unfolding sorted_of
within_sorted n xs a = within_onto n [] xs tt a

-- ---- the mean

sum_is : (sum : Float) (xs : List Float) → sum_from sum xs ≡ sum_up sum xs
unfolding sum_from
sum_is sum [] = refl
sum_is sum (x ∷ xs) = sum_is (add binary64 sum x) xs

average_within : (xs : List Float) → 0 < length xs → length xs ≤ 64 → AllWithin (2 ^ 33) xs → Within (average_of xs) (2 ^ 33)
unfolding average_of
average_within xs h k a = subst (λ (y : Float). Within (div binary64 y (of_int binary64 (pos (length xs)))) (2 ^ 33)) (sym (sum_is zero64 xs))
    (mean_within xs h k a)

-- the mean of samples within 2^33 is within 2^33, where some are left between the extremes
pub mean_of_within : (d : ℕ) (xs : List Float) → d + d < length xs → length xs ≤ 64 → AllWithin (2 ^ 33) xs → Within (mean_of d xs) (2 ^ 33)
unfolding mean_of
mean_of_within d xs h k a =
    let ys = sorted_of xs in
    let l : length (inner_of d ys) ≡ length xs - d - d = length-drop d (take (length ys - d) ys) ∙ ap (λ (m : ℕ). m - d) (length-take (length ys - d) ys)
    ∙ omega (arith, sorted_length xs) in
    average_within (inner_of d ys) (omega (arith, l)) (omega (arith, l))
    (within_drop (2 ^ 33) d (take (length ys - d) ys) (within_take (2 ^ 33) (length ys - d) ys (within_sorted (2 ^ 33) xs a)))

-- ---- the offset

synced_ok : (o : Option Float) (mean deviation : Float) → offset_ok o ≡ true → sample_ok mean ≡ true → offset_ok (offset_after o mean deviation) ≡ true
synced_ok None mean deviation h k = k
synced_ok (Some x) mean deviation h k = go (deviates_of mean x deviation)
  where
    go : (b : Bool) → offset_ok (cond b (Some mean) (Some x)) ≡ true
    go true = k
    go false = h

-- ---- a sound clock, in parts

pub record Parts (s : Settings) (c : Clock) : Type 0 where
  pub fewer : c.len < samples_to_store_of s
  pub held : c.len ≤ 63
  pub samples : samples_ok (take c.len c.samples) ≡ true
  pub timer : timer_ok c.timer ≡ true
  pub offset : offset_ok c.offset ≡ true

pub parts_of : (s : Settings) (c : Clock) → sound_clock s c ≡ true → Parts s c
unfolding sound_clock
parts_of s c h =
    let t = ltb c.len (samples_to_store_of s) in
    let u = leb c.len 63 in
    let v = samples_ok (take c.len c.samples) in
    let w = timer_ok c.timer in
    let a = apart (t && u && v && w) (offset_ok c.offset) h in
    let b = apart (t && u && v) w a.0 in
    let d = apart (t && u) v b.0 in
    let e = apart t u d.0 in
    record { fewer = ltb-true c.len (samples_to_store_of s) e.0; held = leb-true c.len 63 e.1; samples = d.1; timer = b.1; offset = a.1 }

pub of_parts : (s : Settings) (c : Clock) → Parts s c → sound_clock s c ≡ true
unfolding sound_clock
of_parts s c p = simp (lt-ltb c.len (samples_to_store_of s) p.fewer, le-leb c.len 63 p.held, p.samples, p.timer, p.offset)

-- with settings that pass the test is what document 01 lists: fewer than 64 samples follow from fewer than are stored
pub sound_as_listed : (s : Settings) (c : Clock) → passes_of s ≡ true
    → sound_clock s c ≡ ltb c.len (samples_to_store_of s) && samples_ok (take c.len c.samples) && timer_ok c.timer && offset_ok c.offset
unfolding sound_clock
sound_as_listed s c pass = go (ltb c.len (samples_to_store_of s)) (ltb-true c.len (samples_to_store_of s))
  where
    go : (b : Bool) → (b ≡ true → c.len < samples_to_store_of s)
        → b && leb c.len 63 && samples_ok (take c.len c.samples) && timer_ok c.timer && offset_ok c.offset ≡ b && samples_ok
        (take c.len c.samples) && timer_ok c.timer && offset_ok c.offset
    go true h = ap (λ (u : Bool). u && samples_ok (take c.len c.samples) && timer_ok c.timer && offset_ok c.offset)
        (le-leb c.len 63 (omega (arith, h refl, (store_few s pass).1)))
    go false h = refl

-- ---- the timer

pub timer_ticks : (s : Settings) (c : Clock) (delta : Float) → passes_of s ≡ true → T (fits binary64 c.timer) → Within delta 3600
    → timer_ok c.timer ≡ true → timer_ok (ticked_of c s.period delta).clock.timer ≡ true
unfolding ticked_of timer_ok le
timer_ticks s c delta pass f w h =
    let a = apart (finite c.timer) (le c.timer hour64) h in
    let t = add binary64 c.timer delta in
    let ft = add_finite c.timer delta f (is _ a.0) (within_widen delta 3600 (2 ^ 53) (lit≤ tt) w) in
    go t ft (lt s.period t) refl (period_within s pass)
  where
    go : (t : Float) → T (finite t) → (b : Bool) → lt s.period t ≡ b → Limited zero64 hour64 s.period
        → timer_ok (cond {A = Ticked} b (record { clock = timed_of c zero64; request = true })
        (record { clock = timed_of c t; request = false })).clock.timer ≡ true
    go t ft true e p = refl
    go t ft false e p =
        both (is_true (finite t) ft)
        (is_true (le t hour64) (float_le_trans t s.period hour64
        (float_le_of_not_lt s.period t p.number ft (subst (λ (b : Bool). T (not b)) (sym e) tt)) p.high))

-- the timer after a tick is a value of the format
pub timer_fits : (s : Settings) (c : Clock) (delta : Float) → T (fits binary64 (ticked_of c s.period delta).clock.timer)
unfolding ticked_of fits
timer_fits s c delta = go (lt s.period (add binary64 c.timer delta))
  where
    go : (b : Bool) → T (fits binary64 (cond {A = Ticked} b (record { clock = timed_of c zero64; request = true })
        (record { clock = timed_of c (add binary64 c.timer delta); request = false })).clock.timer)
    go true = tt
    go false = add-fits binary64 c.timer delta

-- a tick changes the timer alone
ticked_is : (c : Clock) (period delta : Float) → (ticked_of c period delta).clock ≡ timed_of c (ticked_of c period delta).clock.timer
unfolding ticked_of
ticked_is c period delta = go (lt period (add binary64 c.timer delta)) (add binary64 c.timer delta)
  where
    go : (b : Bool) (t : Float) → (cond {A = Ticked} b (record { clock = timed_of c zero64; request = true })
        (record { clock = timed_of c t; request = false })).clock ≡ timed_of c
        (cond {A = Ticked} b (record { clock = timed_of c zero64; request = true }) (record { clock = timed_of c t; request = false })).clock.timer
    go true t = refl
    go false t = refl

ticked_parts : (s : Settings) (c : Clock) (delta : Float) → passes_of s ≡ true → T (fits binary64 c.timer) → Within delta 3600 → Parts s c
    → Parts s (ticked_of c s.period delta).clock
ticked_parts s c delta pass f w p =
    subst (λ (d : Clock). Parts s d) (sym (ticked_is c s.period delta))
    (record { fewer = p.fewer; held = p.held; samples = p.samples; timer = timer_ticks s c delta pass f w p.timer; offset = p.offset })

-- ---- a message

-- the offset that a message measures passes the test of a sample
pub measured_ok : (send server seconds : Float) → Within send (2 ^ 32) → Within server (2 ^ 32) → Within seconds (2 ^ 32)
    → sample_ok (offset_of send server seconds) ≡ true
unfolding offset_of
measured_ok send server seconds a b c = sample_passes (offset_of send server seconds) (offset_within send seconds server a c b)

-- ---- one sample more

module _ (s : Settings) (pass : passes_of s ≡ true) (c : Clock) (full : length c.samples ≡ 64) (p : Parts s c) (x : Float) (ok : sample_ok x ≡ true) where
  held_is : held_of c ≡ take c.len c.samples
  unfolding held_of
  held_is = let e : min c.len 63 ≡ c.len = omega (arith, p.held) in ap (λ (k : ℕ). take k c.samples) e

  all : List Float
  all = held_of c ++ (x ∷ [])

  all_within : AllWithin (2 ^ 33) all
  unfolding all
  all_within = within_snoc (2 ^ 33) (held_of c) x (subst (λ (l : List Float). AllWithin (2 ^ 33) l) (sym held_is)
      (samples_within (take c.len c.samples) p.samples)) (sample_within x ok)

  all_length : length all ≡ c.len + 1
  unfolding all
  all_length = length-append (held_of c) (x ∷ []) ∙ omega (arith, ap length held_is, length-take c.len c.samples, full, p.held)

  laid_parts : (o : Option Float) (ys : List Float) → length ys < samples_to_store_of s → offset_ok o ≡ true → AllWithin (2 ^ 33) ys
      → Parts s (sampled_of c o ys)
  laid_parts o ys h k w = record {
    fewer = h;
    held = omega (arith, h, (store_few s pass).1);
    samples = ap samples_ok (take-laid ys) ∙ samples_pass_all ys w;
    timer = p.timer;
    offset = k;
  }

  -- with fewer samples than are stored, and with as many
  pub added_parts : Parts s (added_of s c x)
  unfolding filled_of all
  added_parts = go (ltb (length all) (samples_to_store_of s)) (ltb-true (length all) (samples_to_store_of s)) (ltb-false (length all) (samples_to_store_of s))
    where
      mean_ok : samples_to_store_of s ≤ length all → sample_ok (mean_of (samples_to_discard_of s) all) ≡ true
      mean_ok h =
          let d = discard_few s pass in
          let n = needed_range s.needed s.rate (samples_pass_lem s pass) in
          sample_passes (mean_of (samples_to_discard_of s) all) (mean_of_within
          (samples_to_discard_of s) all (omega (arith, h, n.0)) (omega (arith, all_length, p.held)) all_within)

      go : (b : Bool) → (b ≡ true → length all < samples_to_store_of s) → (b ≡ false → samples_to_store_of s ≤ length all)
          → Parts s (cond b (sampled_of c c.offset all) (sampled_of c (offset_after c.offset (mean_of (samples_to_discard_of s) all) s.deviation)
          (drop 1 all)))
      go true f g = laid_parts c.offset all (f refl) p.offset all_within
      go false f g = laid_parts (offset_after c.offset (mean_of (samples_to_discard_of s) all) s.deviation) (drop 1 all)
          (omega (arith, length-drop 1 all, all_length, p.fewer))
          (synced_ok c.offset (mean_of (samples_to_discard_of s) all) s.deviation p.offset (mean_ok (g refl))) (within_drop (2 ^ 33) 1 all all_within)

named_parts : (s : Settings) (c : Clock) (h : Heard) → Parts s c → Parts s (named_of c h.id)
named_parts s c h p = record { fewer = p.fewer; held = p.held; samples = p.samples; timer = p.timer; offset = p.offset }

settled_parts : (s : Settings) (c : Clock) (h : Heard) → passes_of s ≡ true → length c.samples ≡ 64 → Parts s c → offset_ok h.offset ≡ true
    → Parts s (settled_of s c h)
unfolding settled_of
settled_parts s c h pass full p k = go h.offset k
  where
    go : (o : Option Float) → offset_ok o ≡ true → Parts s (sample_of s (named_of c h.id) o)
    go None k = named_parts s c h p
    go (Some x) k = added_parts s pass (named_of c h.id) full (named_parts s c h p) x k

-- a sample leaves the timer, and so does what is settled
filled_timer : (s : Settings) (c : Clock) (xs : List Float) → (filled_of s c xs).timer ≡ c.timer
unfolding filled_of
filled_timer s c xs = go (ltb (length xs) (samples_to_store_of s))
  where
    go : (b : Bool) → (cond {A = Clock} b (sampled_of c c.offset xs)
        (sampled_of c (offset_after c.offset (mean_of (samples_to_discard_of s) xs) s.deviation) (drop 1 xs))).timer ≡ c.timer
    go true = refl
    go false = refl

settled_timer : (s : Settings) (c : Clock) (h : Heard) → (settled_of s c h).timer ≡ c.timer
unfolding settled_of
settled_timer s c h = go h.offset
  where
    go : (o : Option Float) → (sample_of s (named_of c h.id) o).timer ≡ c.timer
    go None = refl
    go (Some x) = filled_timer s (named_of c h.id) (held_of (named_of c h.id) ++ (x ∷ []))

-- ---- the laws

-- a new clock is sound
pub new_sound : (s : Settings) → passes_of s ≡ true → sound_clock s new_of ≡ true
unfolding new_of samples_ok timer_ok le lt eq
new_sound s pass = of_parts s new_of (record { fewer = omega (arith, (store_few s pass).0); held = lit≤ tt; samples = refl; timer = refl; offset = refl })

-- a sound clock is sound after an update: after its tick, and after what was heard with an offset that passes the test of a sample
pub clock_sound : (s : Settings) (c : Clock) (delta : Float) (h : Heard) → passes_of s ≡ true → length c.samples ≡ 64 → T (fits binary64 c.timer) →
    Within delta 3600 → offset_ok h.offset ≡ true → sound_clock s c ≡ true → sound_clock s (settled_of s (ticked_of c s.period delta).clock h) ≡ true
clock_sound s c delta h pass full f wd ok k =
    let t = (ticked_of c s.period delta).clock in
    let p = ticked_parts s c delta pass f wd (parts_of s c k) in
    let l : length t.samples ≡ 64 = ap (λ (d : Clock). length d.samples) (ticked_is c s.period delta) ∙ full in
    of_parts s (settled_of s t h) (settled_parts s t h pass l p ok)

-- its timer is a value of the format
pub clock_timer_fits : (s : Settings) (c : Clock) (delta : Float) (h : Heard) → T (fits binary64 (settled_of s (ticked_of c s.period delta).clock h).timer)
clock_timer_fits s c delta h = subst (λ (t : Float). T (fits binary64 t)) (sym (settled_timer s (ticked_of c s.period delta).clock h)) (timer_fits s c delta)
