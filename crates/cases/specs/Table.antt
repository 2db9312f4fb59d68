-- The cases that document 01 marks P, in its order, as one table about the definitions. proofs/Table proves it.
-- A stamp is given by its signed number; `pos n` is n, and `negsuc n` is -(n + 1). A float `fin s m e` is m * 2 ^ e, negative where s is true.
use Rattle.std.specs.Prelude.{ℕ, ◌+◌, ◌/◌, ◌%◌, ◌^◌, ◌≡◌, true, false, List, [], ◌∷◌, ◌++◌, pos, negsuc, replicate, Float, Option, Some, None}
use Rattle.std.specs.Float.{fin, binary64}
use Rattle.std.specs.Float.Ieee.{of_int, to_bits}
use Rattle.refusals.specs.Refusals.{accepted}
use Rattle.timestamp.specs.Floats.{zero64, one64}
use Rattle.std.specs.declared.cmp.Ordering.TheVariants.{Less}
use Rattle.timestamp.specs.Timestamps.{bits_of, order_of, in_range}
use Rattle.timestamp.specs.FloatTimestamps.{from_unwrapped, stamp_of, ceil_stamp_of}
use Rattle.settings.specs.declared.TweeningMethod.TheVariants.{Nearest, Interpolated}
use Rattle.settings.specs.declared.Settings.{Settings}
use Rattle.settings.specs.Settings.{discard_of, store_of}
use Rattle.settings.specs.Tweening.{shaped_of}
use Rattle.mean.specs.Mean.{mean_of}
use Rattle.tape.specs.Words.{word_of}
use Rattle.client.specs.declared.ReconciliationStatus.TheVariants.{AwaitingSnapshot}
use Rattle.session_state.specs.declared.Stage.{Stage}
use Rattle.session_state.specs.declared.Stage.TheVariants.{SyncingInitialState, Ready}
use Rattle.session_state.specs.declared.Session.{Session}
use Rattle.session_report.specs.declared.ReportAnswer.{ReportAnswer}
use Rattle.session.specs.Calls.{open_of, update_of}
use Rattle.session_report.specs.Report.{report_of}
use Rattle.session_answers.specs.Answers.{Reply}
use Rattle.demand.specs.Events.{Event, FrameFrom, SkipFrom, events_of}
use Rattle.demand.specs.Demand.{Loading, NoLoad, Loaded, load_in, behind_of, behind_after}

-- the float 32,768.0
abbrev pub at_half : Float
at_half = fin false 1 (pos 15)

-- the float 32,767.5
abbrev pub before_half : Float
before_half = fin false 65535 (negsuc 0)

-- the float -1.5
abbrev pub minus_one_and_half : Float
minus_one_and_half = fin true 3 (negsuc 0)

-- the float 4
abbrev pub four : Float
four = fin false 1 (pos 2)

-- the float 9
abbrev pub nine : Float
nine = fin false 9 (pos 0)

-- ---- two runs of calls, each from open on: the run of document 01, and one with m = 3 and g = 7. Each call is handed the session that the call before it
-- returned

-- the float of n seconds
abbrev pub seconds_of : ℕ → Float
seconds_of n = of_int binary64 (pos n)

-- the settings of the run of 01, which has m = 2; the other run differs in m alone
unfoldable pub settings_with : ℕ → Settings
settings_with m =
    record {
      timestep = seconds_of 1;
      blend = seconds_of 2;
      lag = seconds_of 0;
      period = seconds_of 100;
      deviation = seconds_of 1;
      skip = seconds_of 10;
      max = seconds_of 4;
      needed = 1;
      rate = zero64;
      m = m;
      method = Interpolated;
    }

-- the bits of a time as three words of kind 5: 8, 28 and 28 bits, high first
abbrev pub time_words : ℕ → List ℕ
time_words bits = word_of 5 (bits / 2 ^ 56) ∷ word_of 5 (bits / 2 ^ 28 % 2 ^ 28) ∷ word_of 5 (bits % 2 ^ 28) ∷ []

-- a clock message of client 7, whose send time and server time are n seconds
unfoldable pub clock_at : ℕ → List ℕ
clock_at n = word_of 3 7 ∷ (time_words (to_bits binary64 (seconds_of n)) ++ time_words (to_bits binary64 (seconds_of n)))

-- an update of delta 1 at n seconds, with a tape of 8 words
abbrev pub update_at : Session → ℕ → List ℕ → Reply
update_at s n inbox = update_of s (seconds_of 1) (seconds_of n) inbox 8

-- the session that open gives
unfoldable pub opened : ℕ → Session
opened m = (open_of (settings_with m)).session

-- the first update, at n seconds, with a clock message
unfoldable pub heard_once : ℕ → ℕ → Reply
heard_once m n = update_at (opened m) n (clock_at n)

-- the second, a second later, with a clock message
unfoldable pub heard_twice : ℕ → ℕ → Reply
heard_twice m n = update_at (heard_once m n).session (n + 1) (clock_at (n + 1))

-- the third, again a second later, with a clock message
unfoldable pub heard_thrice : ℕ → ℕ → Reply
heard_thrice m n = update_at (heard_twice m n).session (n + 2) (clock_at (n + 2))

-- the update of the run of 01 at 4 s, with a command for the stamp 4 and a snapshot of the stamp 3
unfoldable pub at_four : Reply
at_four = update_at (heard_thrice 2 1).session 4 (0x10000004 ∷ 0x40000009 ∷ 0x20000003 ∷ 0x40000005 ∷ [])

-- the update at 5 s, with an empty inbox
unfoldable pub at_five : Reply
at_five = update_at at_four.session 5 []

-- the update at 6 s, with an empty inbox
unfoldable pub at_six : Reply
at_six = update_at at_five.session 6 []

-- m = 3: the update that plays the first frame, with a snapshot of the stamp 93 where the old stamp is 100, so g = 7
unfoldable pub frame_one : Reply
frame_one = update_at (heard_thrice 3 98).session 101 (0x2000005d ∷ 0x40000005 ∷ [])

-- the update that plays the second frame
unfoldable pub frame_two : Reply
frame_two = update_at frame_one.session 102 []

-- the update that plays the third frame
unfoldable pub frame_three : Reply
frame_three = update_at frame_two.session 103 []

-- the update that plays the fourth frame
unfoldable pub frame_four : Reply
frame_four = update_at frame_three.session 104 []

-- what happened in an update of delta 1 at n seconds, of a session whose worlds exist, that replied this
abbrev pub events_at : Session → ℕ → List ℕ → Reply → List Event
events_at s n inbox r = events_of s (seconds_of 1) (seconds_of n) inbox r.refusal

-- what happened in the four updates
unfoldable pub trace_of_four : List Event
trace_of_four =
    events_at (heard_thrice 3 98).session 101 (0x2000005d ∷ 0x40000005 ∷ []) frame_one
    ++ (events_at frame_one.session 102 [] frame_two ++ (events_at frame_two.session 103 [] frame_three ++ events_at frame_three.session 104 [] frame_four))

-- the loads of the frames of a trace
abbrev pub loads_in : List Event → List Loading
loads_in [] = []
loads_in (FrameFrom r s ∷ es) = load_in s ∷ loads_in es
loads_in (SkipFrom s t ∷ es) = loads_in es

-- how far behind the new world is after each frame of a trace, by the definition of a frame
abbrev pub behinds_in : List Event → List ℕ
behinds_in [] = []
behinds_in (FrameFrom r s ∷ es) = behind_after r s ∷ behinds_in es
behinds_in (SkipFrom s t ∷ es) = behinds_in es

-- how far behind it is in the session of each reply
abbrev pub behinds_after : List Reply → List ℕ
behinds_after [] = []
behinds_after (a ∷ rest) = behind_of a.session.worlds ∷ behinds_after rest

-- an update was accepted, with F, C and this tape
pub record Shows (r : Reply) (f c : ℕ) (words : List ℕ) : Type 0 where
  pub refusal : r.refusal ≡ accepted
  pub frames : r.frames ≡ f
  pub steps : r.steps ≡ c
  pub tape : r.tape ≡ words

-- the report of a session in this stage that awaits a snapshot, with both stamps at n and this display time
abbrev pub report_at : Stage → ℕ → Option Float → ReportAnswer
report_at stage n t = record { refusal = accepted; stage = stage; status = AwaitingSnapshot; old = record { 0 = n }; new = record { 0 = n }; time = t }

-- ---- the table

-- the table: the nine facts on stamps and frame counts, the mean, the 0.5 tween, the catching up with m = 3 and g = 7, and the run
pub record Marked : Type 0 where
  -- 32,767 is less than -32,768
  pub wrap_less : order_of (bits_of (pos 32767)) (bits_of (negsuc 32767)) ≡ Less
  -- 0 and -32,768 are each Less than the other
  pub half_cycle : (order_of (bits_of (pos 0)) (bits_of (negsuc 32767)) ≡ Less) × (order_of (bits_of (negsuc 32767)) (bits_of (pos 0)) ≡ Less)
  -- around 100, -16,283 is in the accepted range
  pub low_in : in_range (bits_of (pos 100)) (bits_of (negsuc 16282)) ≡ true
  -- and so is 16,482
  pub high_in : in_range (bits_of (pos 100)) (bits_of (pos 16482)) ≡ true
  -- -16,284 is out
  pub low_out : in_range (bits_of (pos 100)) (bits_of (negsuc 16283)) ≡ false
  -- and so is 16,483
  pub high_out : in_range (bits_of (pos 100)) (bits_of (pos 16483)) ≡ false
  -- 32,768.0 frames wrap to -32,768
  pub wraps : from_unwrapped at_half ≡ fin true 1 (pos 15)
  -- 32,767.5 gives 32,767 both ways, cut and rounded up
  pub saturates : (stamp_of (from_unwrapped before_half) ≡ pos 32767) × (ceil_stamp_of (from_unwrapped before_half) ≡ pos 32767)
  -- -1.5 gives -1 both ways
  pub toward_zero : (stamp_of (from_unwrapped minus_one_and_half) ≡ negsuc 0) × (ceil_stamp_of (from_unwrapped minus_one_and_half) ≡ negsuc 0)
  -- needed 1, rate 0: three samples are stored, and the mean of 9, 1, 4 is 4
  pub mean : (store_of 1 zero64 ≡ 3) × (mean_of (discard_of 1 zero64) (nine ∷ one64 ∷ four ∷ []) ≡ four)
  -- a tween weight of 0.5, shaped by rounding half away from zero, is 1
  pub tween : shaped_of Nearest (fin false 1 (negsuc 0)) ≡ one64
  -- m = 3, g = 7: the first of four frames loads 7 behind, and the others load nothing
  pub loads : loads_in trace_of_four ≡ Loaded 7 ∷ NoLoad ∷ NoLoad ∷ NoLoad ∷ []
  -- behind 5, 3, 1, 0 after them
  pub behind : behinds_in trace_of_four ≡ 5 ∷ 3 ∷ 1 ∷ 0 ∷ []
  -- and so in the sessions that the four updates return
  pub left_behind : behinds_after (frame_one ∷ frame_two ∷ frame_three ∷ frame_four ∷ []) ≡ 5 ∷ 3 ∷ 1 ∷ 0 ∷ []
  -- the run: it is opened, and the clock message at 1 s is of these words
  pub run_opened : ((open_of (settings_with 2)).refusal ≡ accepted)
      × (clock_at 1 ≡ 0x30000007 ∷ 0x5000003f ∷ 0x5f000000 ∷ 0x50000000 ∷ 0x5000003f ∷ 0x5f000000 ∷ 0x50000000 ∷ [])
  -- the updates at 1, 2 and 3 s are accepted and play nothing
  pub run_syncs : Shows (heard_once 2 1) 0 0 (replicate 8 0) × Shows (heard_twice 2 1) 0 0 (replicate 8 0) × Shows (heard_thrice 2 1) 0 0 (replicate 8 0)
  -- stamps start at 3
  pub run_starts : report_of (heard_thrice 2 1).session ≡ report_at SyncingInitialState 3 None
  -- the tape at 4 s
  pub run_four : Shows at_four 1 1 (0x38000005 ∷ 0x20000009 ∷ 0x10000000 ∷ 0x28000009 ∷ 0x18000000 ∷ 0x70000000 ∷ 0 ∷ 0 ∷ [])
  -- the tape at 5 s
  pub run_five : Shows at_five 1 1 (0x10000000 ∷ 0x18000000 ∷ 0x48000000 ∷ replicate 5 0)
  -- the tape at 6 s
  pub run_six : Shows at_six 1 1 (0x10000000 ∷ 0x18000000 ∷ 0x48000000 ∷ replicate 5 0)
  -- then Ready, display time 6.0
  pub run_ready : report_of at_six.session ≡ report_at Ready 6 (Some (seconds_of 6))
