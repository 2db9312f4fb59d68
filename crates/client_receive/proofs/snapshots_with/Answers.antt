-- `snapshots_with` meets its contract: a fresh snapshot is queued. `search` finds it too; it is answered so that a wrong program is refused at an equation, and
-- not at a limit of `search`. Assumes nothing.
use Rattle.std.proofs.Common.{◌≡◌, ℕ, true, false, Some, sym, ◌∙◌}
use Rattle.timestamp.specs.declared.Timestamp.{Timestamp}
use Rattle.client.specs.declared.Snapshots.{Snapshots}
use Rattle.client_receive.specs.Receive.{from_future_of, fresh_of, snapshots_by, snapshots_of}
use Rattle.client_receive.proofs.snapshots_with.Goals as goal

fresh_queued : (s : Snapshots) (old t : Timestamp) (h : ℕ) → from_future_of t old ≡ false → fresh_of s.lastqueued t ≡ true
    → ◌≡◌ {A = Snapshots} (record { queued = Some (record { stamp = t; handle = h }); lastqueued = Some t; lastreceived = Some t }) (snapshots_of s old t h)
unfolding snapshots_of snapshots_by
fresh_queued s old t h hf hg = rw (hf, hg)

pub returns-then-is_fresh : goal.returns-then-is_fresh
unfolding from_future_of
returns-then-is_fresh c =
    let a = c.args in
    fresh_queued a.s a.old a.snapshot.stamp a.snapshot.handle (sym c.is_later.ensures ∙ c.if-is_later.false) (sym c.is_fresh.ensures ∙ c.if-is_fresh.true)
