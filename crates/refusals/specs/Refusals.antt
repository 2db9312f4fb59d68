-- Why calls are turned down, and under which numbers: document 01, "Turned down by the input" and "Turned down by the session", and from 31 on document
-- 02's. And the order in which each call is judged: the lowest number first, but 25 to 27 by which is met first. Definitions only. Assumes nothing.
use Rattle.std.specs.Prelude.{ℕ, Bool, cond, Result, Ok, Err, ⊤}
use Rattle.refusals.specs.declared.Refusal.{Refusal}
use Rattle.refusals.specs.declared.Refusal.TheVariants.{Settings, Times, Length, Word, Cut, ClockTime, Handle, Samples, Unsound, Syncing, OtherClient, Full}
use Rattle.refusals.specs.declared.Refusal.TheVariants.{NotReady, Frames, Status, Weight, Tape, Span}
use Rattle.refusals.specs.declared.Stop.{Stop}
use Rattle.refusals.specs.declared.Stop.TheVariants.{Done, TooManyFrames, StatusStops}

-- ---- the numbers

-- the number of each refusal
abbrev pub number_of : Refusal → ℕ
-- settings that are out of their ranges
number_of Settings = 1
-- delta or seconds
number_of Times = 2
-- an inbox of over 4,096 words
number_of Length = 3
-- a word of wrong kind, place or spare bits
number_of Word = 4
-- an inbox that ends inside a message
number_of Cut = 5
-- a clock time that is not finite or beyond 2 ^ 32
number_of ClockTime = 6
-- the handle of an issue over 24 bits
number_of Handle = 7
-- the hosts' mean call: its sample bytes, a sample or its answer buffer
number_of Samples = 8
-- an unsound session
number_of Unsound = 20
-- a command or a snapshot, or a report, while the clock syncs
number_of Syncing = 21
-- another client id
number_of OtherClient = 22
-- a command for a buffer that takes it but holds 64
number_of Full = 23
-- an issue before the session is Ready
number_of NotReady = 24
-- a 66th frame in one update
number_of Frames = 25
-- worlds in a state in which the Rust stops
number_of Status = 26
-- a tween weight outside 0 to 1 before it is shaped
number_of Weight = 27
-- words that exceed the tape
number_of Tape = 28
-- the hosts' call for the frames of a span: the span or a part of the rate is out of range
number_of Span = 31

-- what a call is judged to be
abbrev pub Verdict : Type 0
Verdict = Result ⊤ Refusal

-- nothing refuses: the call is accepted
abbrev pub accepted : Verdict
accepted = Ok tt

-- the number of a verdict: 0 where nothing refuses
abbrev pub number_in : Verdict → ℕ
number_in (Ok x) = 0
number_in (Err e) = number_of e

-- ---- the order in which each call is judged

-- a fact that must hold, or the call is turned down
abbrev pub required : Bool → Refusal → Verdict
required fact e = cond fact accepted (Err e)

-- a second verdict, which counts where the first is to accept
abbrev pub then_by : Verdict → Verdict → Verdict
then_by (Ok x) v = v
then_by (Err e) v = Err e

-- open: whether the settings pass
abbrev pub open_verdict_by : (passes : Bool) → Verdict
open_verdict_by passes = cond passes accepted (Err Settings)

-- an update before anything of it is played: whether its times are in range, the verdict on its inbox, and whether the session is sound
unfoldable pub once_verdict_by : (times : Bool) (inbox : Verdict) (sound : Bool) → Verdict
once_verdict_by times inbox sound = cond times (then_by inbox (cond sound accepted (Err Unsound))) (Err Times)

-- what arrived while the clock syncs: whether there is a command or a snapshot, and whether a clock message has another client id
abbrev pub syncing_verdict_by : (arrived other : Bool) → Verdict
syncing_verdict_by arrived other = cond arrived (Err Syncing) (cond other (Err OtherClient) accepted)

-- what arrived once worlds exist: whether a clock message has another client id, and whether a buffer that takes a command is full
abbrev pub arrival_verdict_by : (other full : Bool) → Verdict
arrival_verdict_by other full = cond other (Err OtherClient) (cond full (Err Full) accepted)

-- an update whose frames have ended: why they ended, whether the tween weight is in range, and whether the words fit the tape
abbrev pub end_verdict_by : Stop → (weight fits : Bool) → Verdict
end_verdict_by Done weight fits = cond weight (cond fits accepted (Err Tape)) (Err Weight)
end_verdict_by TooManyFrames weight fits = Err Frames
end_verdict_by StatusStops weight fits = Err Status

-- an issue: whether its handle is within 24 bits, the session is sound, worlds exist, a buffer that takes the command is full, and the session is Ready
abbrev pub issue_verdict_by : (handle sound worlds full ready : Bool) → Verdict
issue_verdict_by handle sound worlds full ready =
    cond handle (cond sound (cond worlds (cond full (Err Full) (cond ready accepted (Err NotReady))) (Err NotReady)) (Err Unsound)) (Err Handle)

-- a report: whether the session is sound, and whether worlds exist
abbrev pub report_verdict_by : (sound worlds : Bool) → Verdict
report_verdict_by sound worlds = cond sound (cond worlds accepted (Err Syncing)) (Err Unsound)
