-- What the test of a tidy buffer gives, and that it stays tidy where an entry takes its place. Assumes nothing.
use mathlib.Core.Path.{◌≡◌, refl, sym, ap, subst, ◌∙◌}
use mathlib.Core.List.{List, [], ◌∷◌, ◌++◌}
use mathlib.Core.Bool.{Bool, true, false, ◌&&◌}
use Prim.Native.Nat.{ℕ, zero, suc, ◌-◌, ◌≤◌, ◌<◌, min}
use native.Mathlib.Omega.{arith}
use lib.Dec.{eqb}
use Rattle.std.specs.List.{list_all}
use lib.ListN.{length, take, drop, replicate, length-take, length-drop, take-append-drop}
use lib.Seq.{drop_at, take_all}
use borrow.Author.Tests.{eqb-true}
use Rattle.timestamp.specs.declared.Timestamp.{Timestamp}
use Rattle.timestamp.proofs.Tests.{apart, both}
use Rattle.command.specs.Entries.{Entry, plain_entry}
use Rattle.command.specs.declared.CommandBuffer.{CommandBuffer}
use Rattle.command.specs.Buffer.{Insertion, held, blank, laid, in_range_of, placed_of}
use Rattle.command.specs.Soundness.{sound_buffer, all_blank, tidy_of, known_of}
use Rattle.command.proofs.Holding.{held_below, is_laid}
use Rattle.command.proofs.Calls.{inserted_taken}
use Rattle.command.proofs.Soundness.{sound_tells, inserted_sound}

-- ---- blank slots

blank_tells : (xs : List Entry) → all_blank xs ≡ true → xs ≡ replicate (length xs) blank
blank_tells [] h = refl
blank_tells (x ∷ xs) h =
    let a = apart (eqb x blank) (all_blank xs) h in
    rw (eqb-true x blank a.0) (ap (λ (l : List Entry). blank ∷ l) (blank_tells xs a.1))

blank_holds : (n : ℕ) → all_blank (replicate n blank) ≡ true
blank_holds zero = refl
blank_holds (suc n) = blank_holds n

-- ---- a tidy buffer

pub record IsTidy (b : CommandBuffer) : Type 0 where
  pub sound : sound_buffer b ≡ true
  pub clean : b ≡ laid (held b) b.timestamp

pub tidy_tells : (b : CommandBuffer) → length b.entries ≡ 64 → tidy_of b ≡ true → IsTidy b
unfolding tidy_of
tidy_tells b slots h =
    let a = apart (sound_buffer b) (all_blank (drop b.len b.entries)) h in
    let few : b.len ≤ 64 = (sound_tells b a.0).few in
    let count : b.len ≡ length (held b) = sym (simp length-take (omega (arith, slots))) in
    let rest : length (drop b.len b.entries) ≡ 64 - length (held b) = length-drop b.len b.entries ∙ omega (arith, slots, count) in
    record {
      sound = a.0;
      clean = is_laid b.timestamp (record {
        slots = sym (take-append-drop b.len b.entries)
            ∙ ap (λ (l : List Entry). held b ++ l) (blank_tells (drop b.len b.entries) a.1 ∙ ap (λ (k : ℕ). replicate k blank) rest);
        count = count;
      });
    }

-- a sound buffer that is laid out
tidy_laid : (xs : List Entry) (t : Timestamp) → sound_buffer (laid xs t) ≡ true → tidy_of (laid xs t) ≡ true
unfolding tidy_of laid
tidy_laid xs t h =
    both h (rw (drop_at xs (replicate (64 - length xs) blank) (length xs) refl) (blank_holds (64 - length xs)))

-- one entry more
pub tidy_placed : (b : CommandBuffer) (e : Entry) → length b.entries ≡ 64 → tidy_of b ≡ true → in_range_of b.timestamp e ≡ true → b.len < 64
    → plain_entry e ≡ true → tidy_of (laid (placed_of b.timestamp e (held b)) b.timestamp) ≡ true
tidy_placed b e slots tidy within few plain =
    let s = tidy_tells b slots tidy in
    let q = ap (λ (i : Insertion). i.buffer) (inserted_taken b e within (held_below b few) refl) in
    tidy_laid (placed_of b.timestamp e (held b)) b.timestamp (ap sound_buffer q ∙ inserted_sound b e plain s.sound)

-- where a buffer is known to be tidy it is
pub known_tidy : (k : Bool) (b : CommandBuffer) → known_of k b ≡ true → k ≡ true → tidy_of b ≡ true
known_tidy k b h e = subst (λ (q : Bool). known_of q b ≡ true) e h

pub tidy_known : (k : Bool) (b : CommandBuffer) → (k ≡ true → tidy_of b ≡ true) → known_of k b ≡ true
tidy_known true b h = h refl
tidy_known false b h = refl

-- the test, by its two
pub blank_all : (xs : List Entry) → all_blank xs ≡ list_all (λ x. eqb x blank) xs
blank_all [] = refl
blank_all (x ∷ xs) = ap (λ (b : Bool). eqb x blank && b) (blank_all xs)

pub tidy_is : (b : CommandBuffer) {s a : Bool} {n : ℕ} → length b.entries ≡ 64 → s ≡ sound_buffer b → s ≡ true
    → n ≡ min b.len 64 → a ≡ all_blank (take (64 - n) (drop n b.entries)) → a ≡ tidy_of b
unfolding tidy_of
tidy_is b {s} {a} {n} slots hs e hn ha =
    let few : b.len ≤ 64 = (sound_tells b (sym hs ∙ e)).few in
    let m : n ≡ b.len = omega (arith, hn, few) in
    let whole : take (64 - n) (drop n b.entries) ≡ drop n b.entries = take_all (64 - n) (drop n b.entries) (omega (arith, length-drop n b.entries, slots)) in
    ha ∙ ap all_blank whole ∙ ap (λ (k : ℕ). all_blank (drop k b.entries)) m ∙ sym (ap (λ (t : Bool). t && all_blank (drop b.len b.entries)) (sym hs ∙ e))

pub tidy_not : (b : CommandBuffer) {s : Bool} → s ≡ sound_buffer b → s ≡ false → s ≡ tidy_of b
unfolding tidy_of
tidy_not b {s} hs e = e ∙ sym (ap (λ (t : Bool). t && all_blank (drop b.len b.entries)) (sym hs ∙ e))
