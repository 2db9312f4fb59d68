-- What the code of what arrives comes to, over plain values. Assumes nothing.
use mathlib.Core.Path.{◌≡◌, refl, ap, ◌∙◌}
use mathlib.Core.Bool.{Bool, true, false, ◌||◌}
use Rattle.tape.specs.Sides.{is_left}
use Rattle.command.specs.Entries.{Entry}
use Rattle.command.specs.Buffer.{Insertion, inserted_of, taken_by, full_by}
use Rattle.simulation.specs.World.{Scheduled, scheduled_of}
use Rattle.client.specs.declared.Ledger.{Ledger}
use Rattle.client.specs.declared.Scene.{Scene}
use Rattle.client.specs.Ledgers.{takes}
use Rattle.client.specs.Sides.{new_side_of, old_side_of, world_of, with_world, with_ledger, ledger_of, with_left, with_right, with_base, with_worlds}
use Rattle.client.specs.Sides.{with_ledgers}
use Rattle.client_receive.specs.Inner.{any_full}
use Rattle.client_receive.specs.Receive.{Received, offered_base, offered_side, received_of}

-- ---- commands

or_swap : (a b : Bool) → a || b ≡ b || a
or_swap true true = refl
or_swap true false = refl
or_swap false true = refl
or_swap false false = refl

-- a scene with another base, other worlds and other ledgers
abbrev offered : Scene → Insertion → Scheduled → Scheduled → Ledger → Ledger → Scene
offered s i a b l r = with_ledgers (with_worlds s (with_left (with_right (with_base s.worlds i.buffer) b.world) a.world)) l r

-- what three insertions leave
received : Scene → Insertion → Scheduled → Scheduled → Bool → Received
received s i a b f = record { scene = offered s i a b (takes s.left (taken_by a.outcome)) (takes s.right (taken_by b.outcome)); full = f }

-- the command goes to all three, whichever side is new
received_by : (s : Scene) (e : Entry) (new : Bool) → is_left s.worlds.new ≡ new
    → received s (inserted_of s.worlds.base e) (scheduled_of s.worlds.left e) (scheduled_of s.worlds.right e)
    (any_full (inserted_of s.worlds.base e).outcome (scheduled_of s.worlds.left e).outcome (scheduled_of s.worlds.right e).outcome)
    ≡ received_of s e
unfolding received received_of offered_base offered_side new_side_of old_side_of world_of with_world with_ledger ledger_of any_full
received_by s e true h =
    rw h
    (ap (λ (x : Bool). received s (inserted_of s.worlds.base e) (scheduled_of s.worlds.left e) (scheduled_of s.worlds.right e)
    (full_by (inserted_of s.worlds.base e).outcome || x))
    (or_swap (full_by (scheduled_of s.worlds.left e).outcome) (full_by (scheduled_of s.worlds.right e).outcome)))
received_by s e false h = rw h refl

-- a command that arrived, by the calls that offer it
pub received_is : (s : Scene) (e : Entry) {i : Insertion} {a b : Scheduled} {l r : Ledger} {f : Bool}
    → i ≡ inserted_of s.worlds.base e → a ≡ scheduled_of s.worlds.left e → b ≡ scheduled_of s.worlds.right e
    → l ≡ takes s.left (taken_by a.outcome) → r ≡ takes s.right (taken_by b.outcome) → f ≡ any_full i.outcome a.outcome b.outcome
    → ◌≡◌ {A = Received} (record { scene = offered s i a b l r; full = f }) (received_of s e)
unfolding received
received_is s e {i} {a} {b} {l} {r} {f} hi ha hb hl hr hf =
    (λ j. record { scene = offered s i a b (hl j) (hr j); full = hf j })
    ∙ (λ j. received s (hi j) (ha j) (hb j) (any_full (hi j).outcome (ha j).outcome (hb j).outcome))
    ∙ received_by s e (is_left s.worlds.new) refl
