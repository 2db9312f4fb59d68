-- `receive` meets its contract: the commands, where there is any, and then the snapshots. Assumes nothing.
use Rattle.std.proofs.Common.{◌≡◌, sym, ◌∙◌}
use Rattle.client_receive.specs.Receive.{Received, none_received}
use Rattle.inbox_passes.specs.Passes.{received_in}
use Rattle.inbox_scan.proofs.Arriving.{received_none}
use Rattle.session.proofs.Answering.{arrives}
use Rattle.session.proofs.in_place.receive.Goals as goal
use Rattle.session.proofs.in_place.receive.Goals.{then-scan, else-scan}

pub returns : goal.returns
returns c =
    let got : ◌≡◌ {A = Received} (record { scene = c.if-scan.scene; full = c.if-scan.full }) (received_in c.args.inbox.now (none_received c.args.scene.now)) =
    elim c.if-scan.branch [
      | then-scan w ↦ (λ i. record { scene = w.scene-is i; full = w.full-is i }) ∙ w.receive_commands-full.ensures
      | else-scan w ↦ (λ i. record { scene = w.scene-is i; full = (w.full-is ∙ w.if-scan.false) i })
          ∙ sym (received_none _ _ (sym c.requires.0 ∙ w.if-scan.false))
    ] in
    arrives c.args.inbox.now c.args.scene.now got c.requires.1
