-- The second pass over an inbox: what its loop keeps. Assumes nothing.
use Rattle.std.proofs.Common.{◌≡◌, ℕ, Bool, List, [], ◌∷◌, sym, ap, ◌∙◌}
use Rattle.client.specs.declared.Scene.{Scene}
use Rattle.client_receive.specs.Receive.{Received}
use Rattle.inbox.specs.Inbox.{Reading, messages_of}
use Rattle.inbox.specs.Passes.{over}
use Rattle.inbox_passes.specs.Passes.{receive_one, received_in}

-- what the messages ms that are left make of the scene s gives what the whole gives
pub record Receiving (words : List ℕ) (start : Received) (ms : List Reading) (s : Scene) (full : Bool) : Type 0 where
  pub passes : over receive_one (record { scene = s; full = full }) ms ≡ received_in words start

pub receive_start : (words : List ℕ) (s : Scene) (full : Bool) {ms : List Reading} → ms ≡ messages_of words
    → Receiving words (record { scene = s; full = full }) ms s full
unfolding received_in
receive_start words s full e = record { passes = ap (over receive_one (record { scene = s; full = full })) e }

module _ {words : List ℕ} {start : Received} {ms : List Reading} {s : Scene} {full : Bool} (p : Receiving words start ms s full) where
  pub receive_step : {m : Reading} {ns : List Reading} {t : Scene} {f : Bool} → ms ≡ m ∷ ns
      → ◌≡◌ {A = Received} (record { scene = t; full = f }) (receive_one (record { scene = s; full = full }) m) → Receiving words start ns t f
  receive_step {m} {ns} e h =
      record { passes = ap (λ q. over receive_one q ns) h ∙ sym (ap (over receive_one (record { scene = s; full = full })) e) ∙ p.passes }

  pub receive_end : ms ≡ [] → ◌≡◌ {A = Received} (record { scene = s; full = full }) (received_in words start)
  receive_end e = sym (ap (over receive_one (record { scene = s; full = full })) e) ∙ p.passes
