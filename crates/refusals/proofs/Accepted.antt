-- What it says of its tests that a call is accepted. Assumes nothing.
use Rattle.std.proofs.Common.{◌≡◌, refl, Bool, true, false, rules}
use Rattle.std.specs.Prelude.{Ok, Err}
use Rattle.refusals.specs.declared.Refusal.{Refusal}
use Rattle.refusals.specs.declared.Stop.{Stop}
use Rattle.refusals.specs.declared.Stop.TheVariants.{Done, TooManyFrames, StatusStops}
use Rattle.refusals.specs.Refusals.{Verdict, accepted, open_verdict_by, once_verdict_by, end_verdict_by, issue_verdict_by}

-- a call that is turned down is not accepted
pub turned_down : {A : Type 0} (e : Refusal) → Err e ≡ accepted → A
turned_down e h = absurd (search rules)

-- the settings of an accepted open pass
pub open_accepted : (p : Bool) → open_verdict_by p ≡ accepted → p ≡ true
open_accepted true h = refl
open_accepted false h = turned_down _ h

-- those of a refused one do not
pub open_refused : (p : Bool) → (open_verdict_by p ≡ accepted → ⊥) → p ≡ false
open_refused true h = absurd (h refl)
open_refused false h = refl

-- an update that is not refused at once: its times, its inbox and its session
pub once_accepted : (t : Bool) (n : Verdict) (s : Bool) → once_verdict_by t n s ≡ accepted → (t ≡ true) × (n ≡ accepted) × (s ≡ true)
unfolding once_verdict_by
once_accepted false n s h = turned_down _ h
once_accepted true (Err e) s h = turned_down _ h
once_accepted true (Ok x) true h = (refl, refl, refl)
once_accepted true (Ok x) false h = turned_down _ h

-- an update that is not refused once its frames have ended: all were played, its tween weight is in range, and its words fit
pub end_accepted : (x : Stop) (w f : Bool) → end_verdict_by x w f ≡ accepted → (x ≡ Done) × (w ≡ true) × (f ≡ true)
end_accepted Done true true h = (refl, refl, refl)
end_accepted Done true false h = turned_down _ h
end_accepted Done false f h = turned_down _ h
end_accepted TooManyFrames w f h = turned_down _ h
end_accepted StatusStops w f h = turned_down _ h

-- an accepted issue: its handle, its session, and that worlds exist
pub issue_accepted : (h s w f r : Bool) → issue_verdict_by h s w f r ≡ accepted → (h ≡ true) × (s ≡ true) × (w ≡ true)
issue_accepted false s w f r k = turned_down _ k
issue_accepted true false w f r k = turned_down _ k
issue_accepted true true false f r k = turned_down _ k
issue_accepted true true true f r k = (refl, refl, refl)
