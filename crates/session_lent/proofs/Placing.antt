-- An update over lent arrays that fit, over plain values: the session that it leaves is that of the numbers and arrays that are there then. Assumes nothing.
use mathlib.Core.Path.{◌≡◌, refl, ap, sym, subst, ◌∙◌}
use mathlib.Core.Bool.{Bool, true, cond}
use mathlib.Core.List.{List}
use Prim.Native.Nat.{ℕ}
use lib.ListN.{length}
use lib.Ieee.{Float}
use Rattle.std.specs.Prelude.{Result, Ok, Err}
use Rattle.std.specs.Result.{is_ok}
use Rattle.refusals.specs.declared.Refusal.{Refusal}
use Rattle.settings.specs.declared.Settings.{Settings}
use Rattle.command.specs.Entries.{Entry}
use Rattle.session_state.specs.declared.Session.{Session}
use Rattle.session_answers.specs.declared.Updated.{Updated}
use Rattle.session_answers.specs.declared.UpdateAnswer.{UpdateAnswer}
use Rattle.session_answers.specs.Answers.{Updates, answer_with}
use Rattle.session.specs.Calls.{update_of}
use Rattle.session_lent.specs.declared.State.{State}
use Rattle.session_lent.specs.declared.LentAnswer.{LentAnswer}
use Rattle.session_lent.specs.Lent.{session_at, state_in}
use Rattle.session_lent.specs.InPlace.{array_after, lent_with, with_session, lengths_fit, update_fitting, UpdatesInPlace}
use Rattle.session_lent.proofs.Keeping.{Keeps, update_keeps}

-- an answer with numbers and a session is the one with that session
with_is : (s : Session) (t : State) (d : Result Updated Refusal) → with_session (lent_with t d) s ≡ answer_with s d
with_is s t (Ok a) = refl
with_is s t (Err e) = refl

-- the numbers are those that were handed on
state_is : (t : State) (d : Result Updated Refusal) → (lent_with t d).state ≡ t
state_is t (Ok a) = refl
state_is t (Err e) = refl

-- what was given back, or kept
picked : {A : Type 0} {x y z : A} (d : Result Updated Refusal) {q : Bool} → q ≡ is_ok d → z ≡ array_after q x y
    → ((e : Refusal) → d ≡ Err e → y ≡ x) → z ≡ x
picked {A} {x} {y} {z} (Ok a) h k f = k ∙ (λ i. cond (h i) x y)
picked {A} {x} {y} {z} (Err e) h k f = k ∙ (λ i. cond (h i) x y) ∙ f e refl

-- the session of an answer
now_of : (s : Session) (d : Result Updated Refusal) → (answer_with s d).session ≡ s
now_of s (Ok a) = refl
now_of s (Err e) = refl

-- what is known of an update of the session `was`, which gave d and left the session `now`
module _ (was : Session) (delta seconds : Float) (words : List ℕ) (len : ℕ) (now : Session) (d : Result Updated Refusal) {last : List ℕ}
    (h : Updates (update_of was delta seconds words len) (answer_with now d) last) where
  keeps : Keeps was (update_of was delta seconds words len)
  keeps = update_keeps was delta seconds words len

  now_is : now ≡ (update_of was delta seconds words len).session
  now_is = sym (now_of now d) ∙ ap (λ (x : UpdateAnswer). x.session) h.answer

  settings_kept : now.settings ≡ was.settings
  settings_kept = ap (λ (x : Session). x.settings) now_is ∙ keeps.settings

  -- a refused one leaves the session that was handed in
  refused_back : (f : Refusal) → d ≡ Err f → was ≡ now
  refused_back f x =
      sym (now_is
      ∙ keeps.back f
      (sym (ap (λ (y : UpdateAnswer). y.refusal) h.answer) ∙ ap (λ (y : Result Updated Refusal). (answer_with now y).refusal) x))

  module _ {q : Bool} (hq : q ≡ is_ok d) {ss₁ : List Float} {l₁ r₁ b₁ : List Entry}
      (k₁ : ss₁ ≡ array_after q now.clock.samples was.clock.samples)
      (k₂ : l₁ ≡ array_after q now.worlds.left.commands.entries was.worlds.left.commands.entries)
      (k₃ : r₁ ≡ array_after q now.worlds.right.commands.entries was.worlds.right.commands.entries)
      (k₄ : b₁ ≡ array_after q now.worlds.base.entries was.worlds.base.entries) where
    -- it is the session of its numbers and of the arrays that are there
    session_placed : session_at was.settings (state_in now) ss₁ l₁ r₁ b₁ ≡ now
    session_placed =
        let p₁ = picked d hq k₁ (λ f x. ap (λ (y : Session). y.clock.samples) (refused_back f x)) in
        let p₂ = picked d hq k₂ (λ f x. ap (λ (y : Session). y.worlds.left.commands.entries) (refused_back f x)) in
        let p₃ = picked d hq k₃ (λ f x. ap (λ (y : Session). y.worlds.right.commands.entries) (refused_back f x)) in
        let p₄ = picked d hq k₄ (λ f x. ap (λ (y : Session). y.worlds.base.entries) (refused_back f x)) in
        λ i. session_at (sym settings_kept i) (state_in now) (p₁ i) (p₂ i) (p₃ i) (p₄ i)

    placed : {t : State} {a : LentAnswer} → t ≡ state_in now → a ≡ lent_with t d
        → Updates (update_of was delta seconds words len) (with_session a (session_at was.settings a.state ss₁ l₁ r₁ b₁)) last
    placed {t} {a} ht ha =
        let n : State = state_in now in
        let z : a ≡ lent_with n d = ha ∙ (λ i. lent_with (ht i) d) in
        subst (λ (x : UpdateAnswer). Updates (update_of was delta seconds words len) x last)
        (sym ((λ i. with_session (z i) (session_at was.settings (z i).state ss₁ l₁ r₁ b₁))
        ∙ (λ i. with_session (lent_with n d) (session_at was.settings (state_is n d i) ss₁ l₁ r₁ b₁))
        ∙ (λ i. with_session (lent_with n d) (session_placed i))
        ∙ with_is now n d)) h

-- an update over arrays that fit
pub place_fit : (c : Settings) (s : State) (delta seconds : Float) (words : List ℕ) (ss : List Float) (l r b : List Entry) (was : List ℕ) {fit : Bool}
    → fit ≡ lengths_fit (length ss) (length l) (length r) (length b) → fit ≡ true
    → {ss₀ : List Float} {l₀ r₀ b₀ : List Entry} → ss₀ ≡ ss → l₀ ≡ l → r₀ ≡ r → b₀ ≡ b
    → {old : Session} (now : Session) (d : Result Updated Refusal) {last : List ℕ} → old ≡ session_at c s ss₀ l₀ r₀ b₀
    → Updates (update_of old delta seconds words (length was)) (answer_with now d) last
    → {q : Bool} → q ≡ is_ok d → {ss₁ : List Float} {l₁ r₁ b₁ : List Entry}
    → ss₁ ≡ array_after q now.clock.samples ss → l₁ ≡ array_after q now.worlds.left.commands.entries l
    → r₁ ≡ array_after q now.worlds.right.commands.entries r → b₁ ≡ array_after q now.worlds.base.entries b
    → {t : State} {a : LentAnswer} → t ≡ state_in now → a ≡ lent_with t d
    → UpdatesInPlace c s delta seconds words ss l r b was a ss₁ l₁ r₁ b₁ last
place_fit c s delta seconds words ss l r b was hf e h₁ h₂ h₃ h₄ now d {last = last} ho h hq {ss₁} {l₁} {r₁} {b₁} k₁ k₂ k₃ k₄ {a = a} ht ha =
    let whole : Session = session_at c s ss l r b in
    let u : Updates (update_of whole delta seconds words (length was)) (answer_with now d) last =
    subst (λ (x : Session). Updates (update_of x delta seconds words (length was)) (answer_with now d) last)
    (ho ∙ (λ i. session_at c s (h₁ i) (h₂ i) (h₃ i) (h₄ i))) h in
    let v = placed whole delta seconds words (length was) now d u hq k₁ k₂ k₃ k₄ ht ha in
    record {
      updates = subst (λ (x : Bool). Updates (update_fitting x whole delta seconds words (length was))
          (with_session a (session_at c a.state ss₁ l₁ r₁ b₁)) last) (sym e ∙ hf) v;
    }
