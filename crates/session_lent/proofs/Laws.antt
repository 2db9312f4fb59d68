-- Numbers and arrays are a session and nothing else: taken apart and put together again it is the same, both ways. Arrays that do not fit are refused, and a
-- refusal leaves numbers and arrays as they were. Assumes nothing.
use mathlib.Core.Path.{◌≡◌, refl, ap, sym, ◌∙◌}
use mathlib.Core.Bool.{Bool, true, false}
use mathlib.Core.List.{List}
use Prim.Native.Nat.{ℕ}
use lib.ListN.{length}
use lib.Ieee.{Float}
use Rattle.std.specs.Prelude.{Ok, Err}
use Rattle.refusals.specs.declared.Refusal.{Refusal}
use Rattle.refusals.specs.Refusals.{Verdict, once_verdict_by}
use Rattle.settings.specs.declared.Settings.{Settings}
use Rattle.command.specs.Entries.{Entry}
use Rattle.session_state.specs.declared.Session.{Session}
use Rattle.session_answers.specs.declared.UpdateAnswer.{UpdateAnswer}
use Rattle.session_answers.specs.Answers.{refused_with}
use Rattle.session_lent.specs.declared.State.{State}
use Rattle.session_lent.specs.declared.LentAnswer.{LentAnswer}
use Rattle.session_lent.specs.Lent.{session_at, state_in}
use Rattle.session_lent.specs.InPlace.{refusal_by, lengths_fit, update_fitting, UpdatesInPlace}
use Rattle.session_lent.proofs.Keeping.{Keeps, update_keeps}

-- the session of a session's own numbers and arrays
pub session_back : (s : Session)
    → session_at s.settings (state_in s) s.clock.samples s.worlds.left.commands.entries s.worlds.right.commands.entries s.worlds.base.entries ≡ s
session_back s = refl

-- the numbers of the session that numbers and arrays are
pub state_back : (c : Settings) (s : State) (ss : List Float) (l r b : List Entry) → state_in (session_at c s ss l r b) ≡ s
state_back c s ss l r b = refl

-- an update of a session that is not sound is refused whatever its times and its inbox: `refusal_by` makes up no refusal
pub unfit_refused : (times : Bool) (inbox : Verdict) → once_verdict_by times inbox false ≡ Err (refusal_by (once_verdict_by times inbox false))
unfolding once_verdict_by
unfit_refused false inbox = refl
unfit_refused true (Ok x) = refl
unfit_refused true (Err e) = refl

-- what an update over arrays that fit or not leaves of the session
fitting_keeps : (x : Bool) (s : Session) (delta seconds : Float) (inbox : List ℕ) (len : ℕ) → Keeps s (update_fitting x s delta seconds inbox len)
unfolding refused_with
fitting_keeps true s delta seconds inbox len = update_keeps s delta seconds inbox len
fitting_keeps false s delta seconds inbox len = record { settings = refl; back = λ e k. refl }

-- an update in place that is refused leaves numbers, samples and slots as they were
pub refused_untouched : (c : Settings) (s : State) (delta seconds : Float) (inbox : List ℕ) (ss : List Float) (l r b : List Entry) (was : List ℕ)
    (a : LentAnswer) (ss₁ : List Float) (l₁ r₁ b₁ : List Entry) (last : List ℕ)
    → UpdatesInPlace c s delta seconds inbox ss l r b was a ss₁ l₁ r₁ b₁ last → (e : Refusal) → a.refusal ≡ Err e
    → (a.state ≡ s) × (ss₁ ≡ ss) × (l₁ ≡ l) × (r₁ ≡ r) × (b₁ ≡ b)
refused_untouched c s delta seconds inbox ss l r b was a ss₁ l₁ r₁ b₁ last h e k =
    let whole : Session = session_at c s ss l r b in
    let there : Session = session_at c a.state ss₁ l₁ r₁ b₁ in
    let x : Bool = lengths_fit (length ss) (length l) (length r) (length b) in
    let z = fitting_keeps x whole delta seconds inbox (length was) in
    let p : there ≡ whole =
    ap (λ (y : UpdateAnswer). y.session) h.updates.answer ∙ z.back e (sym (ap (λ (y : UpdateAnswer). y.refusal) h.updates.answer) ∙ k) in (
      ap state_in p,
      ap (λ (y : Session). y.clock.samples) p,
      ap (λ (y : Session). y.worlds.left.commands.entries) p,
      ap (λ (y : Session). y.worlds.right.commands.entries) p,
      ap (λ (y : Session). y.worlds.base.entries) p,
    )
