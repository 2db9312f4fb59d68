-- `receive_one` meets its contract: a command is received, by its stamp and its handle, and what was full before stays said. `search` finds the branches of a
-- command too; they are answered so that a wrong program is refused at an equation, and not at a limit of `search`. Assumes nothing.
use Rattle.std.proofs.Common.{◌≡◌, ℕ, Bool, true, false, ◌||◌, Ok, sym, ap, ◌∙◌, rules}
use Rattle.timestamp.specs.declared.Timestamp.{Timestamp}
use Rattle.command.specs.Entries.{Entry, entry_of}
use Rattle.client.specs.declared.Scene.{Scene}
use Rattle.client_receive.specs.Receive.{Received, received_of, also_full}
use Rattle.inbox.specs.declared.Message.TheVariants.{Command}
use Rattle.inbox.specs.Inbox.{Reading}
use Rattle.inbox_passes.specs.Passes.{receive_one}
use Rattle.inbox_passes.proofs.receive_one.Goals as goal

-- a command with the stamp t and the handle h
received : (s : Scene) (full : Bool) (t : Timestamp) (h : ℕ) {m : Reading} {e : Entry} {u : Scene} {f : Bool}
    → m ≡ Ok (Command t h) → e ≡ entry_of t h → ◌≡◌ {A = Received} (record { scene = u; full = f }) (received_of s e)
    → ◌≡◌ {A = Received} (record { scene = u; full = full || f }) (receive_one (record { scene = s; full = full }) m)
received s full t h hm he hr =
    ap (also_full full) (hr ∙ ap (received_of s) he) ∙ sym (ap (receive_one (record { scene = s; full = full })) hm)

pub returns-then-full-clause-received : goal.returns-then-full-clause-received
returns-then-full-clause-received c =
    rw c.if-full.true
    (received c.args.scene.now true c.in-Ok-Command.stamp c.in-Ok-Command.handle (search rules) c.entry_of.ensures
    c.receive_command_known-filled.ensures.received)

pub returns-else-full-clause-received : goal.returns-else-full-clause-received
returns-else-full-clause-received c =
    rw c.if-full.false
    (received c.args.scene.now false c.in-Ok-Command.stamp c.in-Ok-Command.handle (search rules) c.entry_of.ensures
    c.receive_command_known-filled.ensures.received)
