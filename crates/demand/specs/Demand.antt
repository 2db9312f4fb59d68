-- Demand 3: one statement about any list of updates and issues, from any sound session whose worlds exist. Document 01, "src/client.rs" and
-- "Contracts and cases". Definitions only. Assumes nothing.
use Rattle.std.specs.Prelude.{true, cond, List, [], ◌∷◌, ◌++◌, ◌≡◌, ℕ, ◌+◌, ◌-◌, ◌*◌, ◌%◌, ◌<◌, ◌≤◌, eqb, length, replicate, Option, Some, None}
use Rattle.timestamp.specs.declared.Timestamp.{Timestamp}
use Rattle.timestamp.specs.Timestamps.{difference_of}
use Rattle.tape.specs.Words.{steps_on}
use Rattle.command.specs.Buffer.{held}
use Rattle.settings.specs.declared.Settings.{Settings}
use Rattle.client.specs.declared.ClientWorldSimulations.{ClientWorldSimulations}
use Rattle.client.specs.declared.QueuedSnapshot.{QueuedSnapshot}
use Rattle.client.specs.declared.Scene.{Scene}
use Rattle.client.specs.Sides.{old_side_of, new_side_of, world_of, old_stamp_of, new_stamp_of}
use Rattle.client_frame.specs.declared.Rules.{Rules}
use Rattle.client_frame.specs.Frame.{frame_of, frame_opened, snapshot_of}
use Rattle.client_skip.specs.Skip.{skipped_of}
use Rattle.fixed_timestepper.specs.TimeKeeper.{rules_of}
use Rattle.session_state.specs.declared.Session.{Session}
use Rattle.session_laws.specs.Soundness.{FloatsFit}
use Rattle.session_state.specs.Session.{has_worlds}
use Rattle.session_state.specs.Sound.{sound_of}
use Rattle.demand.specs.Events.{Event, FrameFrom, SkipFrom}
use Rattle.demand.specs.Calls.{Call, Chain, end_of, trace_of, outcome_of, happened, sum, session_of, frames_of, catch_ups_of}
use Rattle.demand.specs.Calls.{ledger_on, marked_of, load_words_of, marked_on, applied_on}

-- ---- a frame of the trace, by its rules and the scene before it

-- the scene once the frame is opened: its load, its swap or its reset is done, and no world has stepped yet
abbrev pub opened_from : Rules → Scene → Scene
opened_from r s = (frame_opened r s).scene

-- the side then old
abbrev pub old_in : Rules → Scene → ℕ
old_in r s = old_side_of (opened_from r s).worlds

-- the side then new
abbrev pub new_in : Rules → Scene → ℕ
new_in r s = new_side_of (opened_from r s).worlds

-- (O - N) modulo 65,536: how many frames the new world is behind
abbrev pub behind_of : ClientWorldSimulations → ℕ
behind_of w = difference_of (old_stamp_of w).0 (new_stamp_of w).0

-- how far behind it is after a frame
abbrev pub behind_after : Rules → Scene → ℕ
behind_after r s = behind_of (frame_of r s).scene.worlds

-- whether a frame loads a snapshot, and g: how far behind the old stamp that is, just before the frame
pub data Loading : Type 0 where
  NoLoad : Loading
  Loaded : (g : ℕ) → Loading

-- the load of a queued snapshot
abbrev pub load_by : Option QueuedSnapshot → Timestamp → Loading
load_by None o = NoLoad
load_by (Some q) o = Loaded (difference_of o.0 q.stamp.0)

-- the load of a frame
abbrev pub load_in : Scene → Loading
load_in s = load_by (snapshot_of s) (old_stamp_of s.worlds)

-- 1 for a load
abbrev pub count_load : Loading → ℕ
count_load NoLoad = 0
count_load (Loaded g) = 1

-- ---- what a trace says

-- its frames
abbrev pub frames_in : List Event → ℕ
frames_in [] = 0
frames_in (FrameFrom r s ∷ es) = 1 + frames_in es
frames_in (SkipFrom s t ∷ es) = frames_in es

-- the distances of its skips: the stamp that a skip sets less the old stamp just before it
abbrev pub distances_in : List Event → ℕ
distances_in [] = 0
distances_in (FrameFrom r s ∷ es) = distances_in es
distances_in (SkipFrom s t ∷ es) = difference_of t.0 (old_stamp_of s.worlds).0 + distances_in es

-- its loads
abbrev pub load_count_in : List Event → ℕ
load_count_in [] = 0
load_count_in (FrameFrom r s ∷ es) = count_load (load_in s) + load_count_in es
load_count_in (SkipFrom s t ∷ es) = load_count_in es

-- the words of one thing that happened
abbrev pub words_of : Event → List ℕ
words_of (FrameFrom r s) = (frame_of r s).words
words_of (SkipFrom s t) = (skipped_of s t).words

-- its words, joined
abbrev pub words_in : List Event → List ℕ
words_in [] = []
words_in (e ∷ es) = words_of e ++ words_in es

-- ---- the rules

-- every frame of a trace goes by these rules
abbrev pub Ruled : Rules → List Event → Type 0
Ruled r [] = Unit {0}
Ruled r (FrameFrom x s ∷ es) = (x ≡ r) × Ruled r es
Ruled r (SkipFrom s t ∷ es) = Ruled r es

-- every frame of a call goes by the rules that the settings of the session give that the call was handed
abbrev pub AllRuled : Session → List Call → Type 0
AllRuled s [] = Unit {0}
AllRuled s (c ∷ cs) = Ruled (rules_of s.settings) (happened s c) × AllRuled (session_of c) cs

-- every session on the way has these settings
abbrev pub AllSet : Settings → List Call → Type 0
AllSet x [] = Unit {0}
AllSet x (c ∷ cs) = ((session_of c).settings ≡ x) × AllSet x cs

-- ---- the catch-up law

-- a frame: its rules, and the scene before it
pub record Frame : Type 0 where
  pub rules : Rules
  pub before : Scene

-- the trace of these frames
abbrev pub frames_from : List Frame → List Event
frames_from [] = []
frames_from (f ∷ fs) = FrameFrom f.rules f.before ∷ frames_from fs

-- none of these frames loads
abbrev pub NoLoads : List Frame → Type 0
NoLoads [] = Unit {0}
NoLoads (f ∷ fs) = (load_in f.before ≡ NoLoad) × NoLoads fs

-- how far behind the new world is after the last of frames that are not none
abbrev pub behind_last : Frame → List Frame → ℕ
behind_last f [] = behind_after f.rules f.before
behind_last f (g ∷ fs) = behind_last g fs

-- Whenever a snapshot is loaded g frames behind, 0 to 32,767, and frames follow with no load among them and no skip, k frames in all with that of the
-- load (k = 1), the new world is max(0, g - k × (m - 1)) behind after the last of them: `-` on natural numbers stops at 0. The frames may be of several
-- updates, with refused calls between them.
unfoldable pub CatchUp : ℕ → List Event → Type 0
CatchUp m trace =
    (before : List Event) (load : Frame) (frames : List Frame) (after : List Event) (g : ℕ) →
    trace ≡ before ++ (frames_from (load ∷ frames) ++ after) →
    load_in load.before ≡ Loaded g → g ≤ 32767 → NoLoads frames →
    behind_last load frames ≡ g - length (load ∷ frames) * (m - 1)

-- ---- the step words of each frame

-- one step word for the side then old, and at most m for the side then new
pub record Stepped (r : Rules) (s : Scene) : Type 0 where
  pub one : steps_on (old_in r s) (frame_of r s).words ≡ 1
  pub most : steps_on (new_in r s) (frame_of r s).words ≤ r.m

-- so in every frame of a trace
unfoldable pub Steps : List Event → Type 0
Steps trace = (before : List Event) (r : Rules) (s : Scene) (after : List Event) → trace ≡ before ++ (FrameFrom r s ∷ after) → Stepped r s

-- the frames of a trace in which the side x is old: by `Stepped` it makes one step in each
abbrev pub old_steps : ℕ → List Event → ℕ
old_steps x [] = 0
old_steps x (FrameFrom r s ∷ es) = cond (eqb (old_in r s) x) 1 0 + old_steps x es
old_steps x (SkipFrom s t ∷ es) = old_steps x es

-- the step words of the side x in the frames in which it is new
abbrev pub new_steps : ℕ → List Event → ℕ
new_steps x [] = 0
new_steps x (FrameFrom r s ∷ es) = cond (eqb (new_in r s) x) (steps_on x (frame_of r s).words) 0 + new_steps x es
new_steps x (SkipFrom s t ∷ es) = new_steps x es

-- ---- the tapes

-- the tape of a call as it came back: the words of what happened, and zeros
abbrev pub Taped : Session → Call → Type 0
Taped s c = (outcome_of c).tape ≡ words_in (happened s c) ++ replicate ((outcome_of c).room - length (words_in (happened s c))) 0

-- so of every call
abbrev pub Tapes : Session → List Call → Type 0
Tapes s [] = Unit {0}
Tapes s (c ∷ cs) = Taped s c × Tapes (session_of c) cs

-- ---- the worlds between what happens

-- two pairs of worlds with the same sides, stamps and weight; what arrives in a call, and what every update ends with, changes none of these
pub record SameWorlds (v w : ClientWorldSimulations) : Type 0 where
  pub side : new_side_of v ≡ new_side_of w
  pub old : old_stamp_of v ≡ old_stamp_of w
  pub new : new_stamp_of v ≡ new_stamp_of w
  pub weight : v.weight ≡ w.weight

-- from the worlds v to the worlds w: each frame and each skip starts from the worlds that were there, and goes on from those that it leaves
abbrev pub Walk : ClientWorldSimulations → List Event → ClientWorldSimulations → Type 0
Walk v [] w = SameWorlds v w
Walk v (FrameFrom r s ∷ es) w = SameWorlds v s.worlds × Walk (frame_of r s).scene.worlds es w
Walk v (SkipFrom s t ∷ es) w = SameWorlds v s.worlds × Walk (skipped_of s t).scene.worlds es w

-- ---- ledgers

-- how many entries the buffer of a side holds
abbrev pub held_on : ℕ → Session → ℕ
held_on x s = length (held (world_of s.worlds x).commands)

-- for the side x: held before + taken + copied = applied + left out + replaced + held after, the counts summed from the answers, and what is held read off
-- the first and the last session; applied are its command words on the tapes
pub record Balanced (x : ℕ) (s : Session) (cs : List Call) : Type 0 where
  pub balance :
      held_on x s + sum (λ c. (ledger_on x c).taken) cs + sum (λ c. (ledger_on x c).copied) cs
      ≡ sum (λ c. (ledger_on x c).applied) cs + sum (λ c. (ledger_on x c).leftout) cs + sum (λ c. (ledger_on x c).replaced) cs + held_on x (end_of s cs)
  pub applied : sum (λ c. (ledger_on x c).applied) cs ≡ sum (applied_on x) cs

-- ---- soundness

-- every session on the way is sound
abbrev pub AllSound : List Call → Type 0
AllSound [] = Unit {0}
AllSound (c ∷ cs) = (sound_of (session_of c) ≡ true) × AllSound cs

-- what the types say of a snapshot that is queued: its stamp has 16 bits
abbrev pub Stamp : Option QueuedSnapshot → Type 0
Stamp None = Unit {0}
Stamp (Some q) = q.stamp.0 < 65536

-- of what the types say of a session, what the theorem needs, and no more: its floats and its clock's slots (`FloatsFit`), and that stamps have 16 bits
pub record Typed (s : Session) : Type 0 where
  pub floats : FloatsFit s
  pub left : s.worlds.left.commands.timestamp.0 < 65536
  pub right : s.worlds.right.commands.timestamp.0 < 65536
  pub queued : Stamp s.worlds.snapshots.queued

-- ---- all of it, for the calls of a list

-- what demand 3 says of the calls cs from the session s
pub record Told (s : Session) (cs : List Call) : Type 0 where
  -- every session on the way is sound
  pub sound : AllSound cs
  -- no call changes the settings
  pub settings : AllSet s.settings cs
  -- every frame goes by the rules of its session's settings
  pub rules : AllRuled s cs
  -- F is the number of frames that happened
  pub frames : frames_in (trace_of s cs) ≡ sum frames_of cs
  -- the old world's stamp has moved by F plus the distances of its skips, modulo 65,536
  pub old : (old_stamp_of (end_of s cs).worlds).0 ≡ ((old_stamp_of s.worlds).0 + sum frames_of cs + distances_in (trace_of s cs)) % 65536
  -- the tapes as returned hold exactly F + C step words
  pub marks : sum marked_of cs ≡ sum frames_of cs + sum catch_ups_of cs
  -- and a snapshot word for each load
  pub loads : sum load_words_of cs ≡ load_count_in (trace_of s cs)
  -- of the side x: one step word for each frame in which it is old, and the others for the frames in which it is new
  pub sides : (x : ℕ) → x < 2 → sum (marked_on x) cs ≡ old_steps x (trace_of s cs) + new_steps x (trace_of s cs)
  -- C of them for the sides then new
  pub caught : new_steps 0 (trace_of s cs) + new_steps 1 (trace_of s cs) ≡ sum catch_ups_of cs
  -- one a frame for the side then old, at most the m of its rules a frame for the side then new
  pub steps : Steps (trace_of s cs)
  -- and so at most m × F
  pub most : sum catch_ups_of cs ≤ s.settings.m * sum frames_of cs
  -- the tapes are the words of what happened
  pub tapes : Tapes s cs
  -- what happened leads from the first worlds to the last
  pub walk : Walk s.worlds (trace_of s cs) (end_of s cs).worlds
  -- both ledgers
  pub ledgers : (x : ℕ) → x < 2 → Balanced x s cs
  -- the catch-up law
  pub law : CatchUp s.settings.m (trace_of s cs)

-- every session on the way is sound, also before worlds exist; proved in proofs/Demand.antt
unfoldable pub AlwaysSound : Type 0
AlwaysSound = (s : Session) (cs : List Call) → Typed s → sound_of s ≡ true → Chain s cs → AllSound cs

-- demand 3, proved in proofs/Demand.antt
unfoldable pub Demand3 : Type 0
Demand3 = (s : Session) (cs : List Call) → Typed s → sound_of s ≡ true → has_worlds s.stage ≡ true → Chain s cs → Told s cs
