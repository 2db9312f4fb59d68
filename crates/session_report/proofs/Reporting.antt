-- What a report comes to, over plain values. Assumes nothing.
use mathlib.Core.Path.{◌≡◌, ap, sym, ◌∙◌}
use mathlib.Core.Bool.{Bool}
use Rattle.std.specs.Prelude.{Ok, Err}
use Rattle.refusals.specs.declared.Refusal.{Refusal}
use Rattle.refusals.specs.Refusals.{Verdict, report_verdict_by}
use Rattle.session_state.specs.declared.Session.{Session}
use Rattle.session_state.specs.Session.{has_worlds}
use Rattle.session_state.specs.Sound.{sound_of}
use Rattle.session_report.specs.declared.ReportAnswer.{ReportAnswer}
use Rattle.session_report.specs.Report.{unreported, reported_of}
use Rattle.session_report.specs.Report.{report_verdict_of, report_by, report_of}

module _ (s : Session) {p w : Bool} {v : Verdict} (hp : p ≡ sound_of s) (hw : w ≡ has_worlds s.stage) (hv : v ≡ report_verdict_by p w) where
  report_verdict : v ≡ report_verdict_of s
  report_verdict = hv ∙ (λ i. report_verdict_by (hp i) (hw i))

  pub report_refused : {e : Refusal} → v ≡ Err e → unreported e ≡ report_of s
  unfolding report_of
  report_refused k = ap (λ (u : Verdict). report_by u s) (sym k ∙ report_verdict)

  pub report_accepted : {r : ReportAnswer} {x : Unit {0}} → v ≡ Ok x → r ≡ reported_of s → r ≡ report_of s
  unfolding report_of
  report_accepted k h = h ∙ ap (λ (u : Verdict). report_by u s) (sym k ∙ report_verdict)
