-- Document 01, "Turned down by the session": every session returned by an accepted call is sound, and what a refused open returns is not.
-- proofs/SoundCalls proves each statement under the same name in small letters.
-- Definitions only. Assumes nothing.
use Prim.{⊥}
use Rattle.std.specs.Prelude.{true, false, List, ◌≡◌, ℕ, T, length, Float}
use Rattle.std.specs.Float.{binary64}
use Rattle.std.specs.Float.Ieee.{fits}
use Rattle.refusals.specs.Limits.{sample_room}
use Rattle.refusals.specs.Refusals.{accepted}
use Rattle.settings.specs.declared.Settings.{Settings}
use Rattle.session_state.specs.declared.Session.{Session}
use Rattle.session_state.specs.Sound.{sound_of}
use Rattle.session.specs.Calls.{open_of, update_of}
use Rattle.session_issue.specs.Issue.{issue_of}

-- of what the types say of a session, what soundness needs: an f64 is a value of binary64, and a clock has its slots
pub record FloatsFit (s : Session) : Type 0 where
  pub timestep : T (fits binary64 s.settings.timestep)
  pub timer : T (fits binary64 s.clock.timer)
  pub slots : length s.clock.samples ≡ sample_room

-- open, accepted
unfoldable pub OpenSound : Type 0
OpenSound = (c : Settings) → (open_of c).refusal ≡ accepted → sound_of (open_of c).session ≡ true

-- open, refused: its session is unsound
unfoldable pub OpenUnsound : Type 0
OpenUnsound = (c : Settings) → ((open_of c).refusal ≡ accepted → ⊥) → sound_of (open_of c).session ≡ false

-- update, accepted, whatever session it was handed
unfoldable pub UpdateSound : Type 0
UpdateSound =
    (s : Session) (delta seconds : Float) (inbox : List ℕ) (len : ℕ) → FloatsFit s →
    (update_of s delta seconds inbox len).refusal ≡ accepted → sound_of (update_of s delta seconds inbox len).session ≡ true

-- issue, accepted, whatever session it was handed
unfoldable pub IssueSound : Type 0
IssueSound = (s : Session) (h : ℕ) → (issue_of s h).refusal ≡ accepted → sound_of (issue_of s h).session ≡ true
