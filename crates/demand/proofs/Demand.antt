-- Demand 3: the calls obey the law of one call, each by its kind, and so any list of them is told. Assumes nothing.
use mathlib.Core.Bool.{Bool, true, false}
use mathlib.Core.List.{List, [], ◌∷◌}
use mathlib.Core.Path.{◌≡◌, refl}
use Prim.Native.Nat.{◌<◌}
use Rattle.client.specs.declared.ClientWorldSimulations.{ClientWorldSimulations}
use Rattle.client.specs.declared.QueuedSnapshot.{QueuedSnapshot}
use Rattle.std.specs.Prelude.{Option, Some, None}
use Rattle.tape.specs.Sides.{is_left}
use Rattle.client.specs.Sides.{new_side_of, old_side_of, world_of, old_stamp_of, new_stamp_of}
use Rattle.session_laws.proofs.TraceFrames.{QueuedFits, Fitting}
use Rattle.session_state.specs.declared.Session.{Session}
use Rattle.demand.specs.Calls.{Call, Update, Issue, Answered, outcome_of, happened, session_of, Chain}
use Rattle.demand.specs.Demand.{Stamp, Typed, AlwaysSound, Demand3}
use Rattle.demand.proofs.OneCall.{OneCall}
use Rattle.demand.proofs.OneUpdate.{one_update}
use Rattle.demand.proofs.OneIssue.{one_issue}
use Rattle.demand.proofs.Lists.{Lawful, all_sound, told}

-- ---- the calls

-- one call, by its kind
pub one_call : (s : Session) (k : Call) → Answered s k → OneCall s (outcome_of k) (happened s k)
one_call s (Update d t box was r last) a = one_update s d t box was r last a
one_call s (Issue h r) a = one_issue s h r a

pub lawful : (s : Session) (cs : List Call) → Chain s cs → Lawful s cs
lawful s [] a = tt
lawful s (k ∷ cs) a = (one_call s k a.0, lawful (session_of k) cs a.1)

-- ---- what the types say

queued_fits : (q : Option QueuedSnapshot) → Stamp q → QueuedFits q
queued_fits None h = tt
queued_fits (Some q) h = h

below_by : (b : Bool) (w : ClientWorldSimulations) → is_left w.new ≡ b → w.left.commands.timestamp.0 < 65536
    → w.right.commands.timestamp.0 < 65536 → ((old_stamp_of w).0 < 65536) × ((new_stamp_of w).0 < 65536)
unfolding old_stamp_of new_stamp_of old_side_of new_side_of world_of
below_by true w e l r = (simp e r, simp e l)
below_by false w e l r = (simp e l, simp e r)

typed_fitting : (s : Session) → Typed s → Fitting s.worlds
typed_fitting s t =
    let b : ((old_stamp_of s.worlds).0 < 65536) × ((new_stamp_of s.worlds).0 < 65536) =
    below_by (is_left s.worlds.new) s.worlds refl t.left t.right in
    record { old = b.0; new = b.1; queued = queued_fits s.worlds.snapshots.queued t.queued }

-- ---- all of it

pub always_sound : AlwaysSound
unfolding AlwaysSound
always_sound s cs t e a = all_sound s cs t.floats e (lawful s cs a)

pub demand_3 : Demand3
unfolding Demand3
demand_3 s cs t e x a = told s cs t.floats (record { sound = e; exists = x; fitting = typed_fitting s t }) (lawful s cs a)
