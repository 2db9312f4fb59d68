-- What the reading of an inbox, a refused or accepted issue and the stages leave of the worlds: sides, stamps and weight as they were, and stamps of 16 bits.
-- Assumes nothing.
use mathlib.Core.Path.{◌≡◌, refl}
use mathlib.Core.Bool.{true}
use mathlib.Core.List.{List, [], ◌∷◌}
use Prim.Native.Nat.{ℕ, ◌≤◌}
use Rattle.std.specs.Prelude.{Ok, Err}
use Rattle.inbox.specs.declared.Message.TheVariants.{Command, Snapshot, Clock}
use Rattle.inbox.specs.Inbox.{Reading, messages_of}
use Rattle.inbox.specs.Passes.{over}
use Rattle.inbox.proofs.Passes.{Each}
use Rattle.inbox.proofs.Bounds.{Bounded, messages_bounded}
use Rattle.settings.proofs.Limits.{steps_few}
use Rattle.command.specs.Entries.{entry_of}
use Rattle.client.specs.declared.ClientWorldSimulations.{ClientWorldSimulations}
use Rattle.client.specs.declared.Scene.{Scene}
use Rattle.client_receive.specs.Receive.{Received}
use Rattle.session_laws.proofs.TraceFrames.{QueuedFits, Fitting}
use Rattle.session_laws.proofs.TraceArrivals.{Alike, alike_self, alike_then, alike_fitting, Offers, offers_self, offers_then, offers, notes_alike}
use Rattle.session_laws.proofs.TraceArrivals.{notes_fit}
use Rattle.session_state.specs.declared.Session.{Session}
use Rattle.session_state.specs.Sound.{sound_of}
use Rattle.inbox_passes.specs.Passes.{receive_one, received_in, note_one, noted_in}
use Rattle.session.specs.Calls.{scene_after, unreceived}
use Rattle.session_state.specs.Session.{scene_of}
use Rattle.session_issue.specs.Issue.{issued_entry, received_now, issue_of}
use Rattle.session_laws.proofs.SoundParts.{sound_facts}
use Rattle.session_laws.proofs.Ways.{issue_by_ways}

-- ---- the settings of a sound session

-- m is from 1 to 64
pub sound_m : (s : Session) → sound_of s ≡ true → (1 ≤ s.settings.m) × (s.settings.m ≤ 64)
sound_m s h = steps_few s.settings (sound_facts s h).settings

-- ---- commands

received_one : (r : Received) (m : Reading) → Offers r.scene (receive_one r m).scene
received_one r (Ok (Command s h)) = offers r.scene (entry_of s h)
received_one r (Ok (Snapshot s h)) = offers_self r.scene
received_one r (Ok (Clock i s t)) = offers_self r.scene
received_one r (Err e) = offers_self r.scene

received_over : (r : Received) (ms : List Reading) → Offers r.scene (over receive_one r ms).scene
received_over r [] = offers_self r.scene
received_over r (m ∷ ms) = offers_then (received_one r m) (received_over (receive_one r m) ms)

-- the commands of an inbox
pub receives : (inbox : List ℕ) (r : Received) → Offers r.scene (received_in inbox r).scene
unfolding received_in
receives inbox r = received_over r (messages_of inbox)

-- ---- snapshots

noted_one : (w : ClientWorldSimulations) (m : Reading) → Alike w (note_one w m)
noted_one w (Ok (Command s h)) = alike_self w
noted_one w (Ok (Snapshot s h)) = notes_alike w s h
noted_one w (Ok (Clock i s t)) = alike_self w
noted_one w (Err e) = alike_self w

noted_over : (w : ClientWorldSimulations) (ms : List Reading) → Alike w (over note_one w ms)
noted_over w [] = alike_self w
noted_over w (m ∷ ms) = alike_then (noted_one w m) (noted_over (note_one w m) ms)

fits_one : (w : ClientWorldSimulations) (m : Reading) → Bounded m → QueuedFits w.snapshots.queued → QueuedFits (note_one w m).snapshots.queued
fits_one w (Ok (Command s h)) b q = q
fits_one w (Ok (Snapshot s h)) b q = notes_fit w s h b.0 q
fits_one w (Ok (Clock i s t)) b q = q
fits_one w (Err e) b q = q

fits_over : (w : ClientWorldSimulations) (ms : List Reading) → Each Bounded ms → QueuedFits w.snapshots.queued
    → QueuedFits (over note_one w ms).snapshots.queued
fits_over w [] b q = q
fits_over w (m ∷ ms) b q = fits_over (note_one w m) ms b.1 (fits_one w m b.0 q)

-- the snapshots of an inbox
pub notes : (inbox : List ℕ) (w : ClientWorldSimulations) → Alike w (noted_in inbox w)
unfolding noted_in
notes inbox w = noted_over w (messages_of inbox)

pub notes_bounded : (inbox : List ℕ) (w : ClientWorldSimulations) → QueuedFits w.snapshots.queued → QueuedFits (noted_in inbox w).snapshots.queued
unfolding noted_in
notes_bounded inbox w q = fits_over w (messages_of inbox) (messages_bounded inbox) q

-- ---- the scene that an update's frames start from

pub record Read (s : Session) (t : Scene) : Type 0 where
  pub alike : Alike s.worlds t.worlds
  pub fitting : Fitting s.worlds → Fitting t.worlds
  pub steps : t.steps ≡ 0

pub read_in : (s : Session) (inbox : List ℕ) → Read s (scene_after s inbox)
read_in s inbox =
    let r : Received = received_in inbox (unreceived s) in
    let o : Offers (scene_of s) r.scene = receives inbox (unreceived s) in
    let a : Alike s.worlds (noted_in inbox r.scene.worlds) = alike_then o.alike (notes inbox r.scene.worlds) in
    record {
      alike = a;
      fitting = λ f. alike_fitting a (notes_bounded inbox r.scene.worlds (rw o.snapshots f.queued)) f;
      steps = o.steps;
    }

-- ---- an issue

-- what an issue leaves as it was
pub record Keeps (s e : Session) : Type 0 where
  pub settings : e.settings ≡ s.settings
  pub stage : e.stage ≡ s.stage
  pub alike : Alike s.worlds e.worlds
  pub queued : e.worlds.snapshots.queued ≡ s.worlds.snapshots.queued

pub keeps_self : (s : Session) → Keeps s s
keeps_self s = record { settings = refl; stage = refl; alike = alike_self s.worlds; queued = refl }

-- an issue, refused or not
pub issue_keeps : (s : Session) (h : ℕ) → Keeps s (issue_of s h).session
issue_keeps s h =
    issue_by_ways (λ a. Keeps s a.session) s h (λ e. keeps_self s)
    (λ i k. let o : Offers (scene_of s) (received_now s h).scene = offers (scene_of s) (issued_entry s h) in
    record { settings = refl; stage = refl; alike = o.alike; queued = rw o.snapshots refl })
