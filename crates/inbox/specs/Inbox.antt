-- The words of an inbox as document 01 has them under "Inbox and tape". A word is a natural number below 2 ^ 32. Definitions only. Assumes nothing.
use Rattle.std.specs.Prelude.{ℕ, zero, suc, ◌+◌, ◌-◌, ◌*◌, ◌/◌, ◌%◌, ◌^◌, Bool, cond, ◌&&◌, List, [], ◌∷◌, length, drop, ltb, eqb, Float, Result, Ok, Err}
use Rattle.std.specs.List.{list_any}
use Rattle.std.specs.Float.{binary64}
use Rattle.std.specs.Float.Ieee.{of_bits}
use Rattle.timestamp.specs.Floats.{time_ok}
use Rattle.refusals.specs.Limits.{handle_room}
use Rattle.refusals.specs.declared.Refusal.{Refusal}
use Rattle.refusals.specs.declared.Refusal.TheVariants.{Word, Cut, ClockTime}
use Rattle.timestamp.specs.declared.Timestamp.{Timestamp}
use Rattle.inbox.specs.declared.Head.{Head}
use Rattle.inbox.specs.declared.Head.TheVariants.{ForCommand, ForSnapshot, ForClock}
use Rattle.inbox.specs.declared.Message.{Message}
use Rattle.inbox.specs.declared.Message.TheVariants.{Command, Snapshot, Clock}
use Rattle.inbox.specs.declared.Step.{Step}

-- what words say: a message, or why they say none
abbrev pub Reading : Type 0
Reading = Result Message Refusal

-- goes on with a value; a refusal decides
abbrev pub and_then : {A B : Type 0} → Result A Refusal → (A → Result B Refusal) → Result B Refusal
and_then (Ok x) f = f x
and_then (Err e) f = Err e

-- ---- one word

-- the kind of a word: its top 4 bits
abbrev pub kind_in : ℕ → ℕ
kind_in w = w / 2 ^ 28

-- the other 28 bits of a word
abbrev pub low_bits_of : ℕ → ℕ
low_bits_of w = w % 2 ^ 28

-- a word of the kind k whose value is below room = 2 ^ n: the value is in the low n bits, and the bits between it and the kind are 0
abbrev pub is_word : ℕ → ℕ → ℕ → Bool
is_word k room w = eqb (kind_in w) k && ltb (low_bits_of w) room

-- the stamp of 16 bits
abbrev pub stamp_from : ℕ → Timestamp
stamp_from n = record { 0 = n }

-- what a list of words starts with, where a word of the kind k is due: its value, a wrong word, or no word
abbrev pub due_word_of : ℕ → ℕ → List ℕ → Result ℕ Refusal
due_word_of k room [] = Err Cut
due_word_of k room (w ∷ ws) = cond (is_word k room w) (Ok (low_bits_of w)) (Err Word)

-- the first word of a message: 1 command and 2 snapshot, low 16 bits stamp; 3 clock, low 28 bits client id; any other is wrong there
abbrev pub head_of : ℕ → Result Head Refusal
head_of w =
    cond (is_word 1 (2 ^ 16) w) (Ok (ForCommand (stamp_from (low_bits_of w))))
    (cond (is_word 2 (2 ^ 16) w) (Ok (ForSnapshot (stamp_from (low_bits_of w))))
    (cond (is_word 3 (2 ^ 28) w) (Ok (ForClock (low_bits_of w))) (Err Word)))

-- ---- a float of three words

-- the 64 bits of a float: 8, 28 and 28 bits, high first
abbrev pub joined_of : ℕ → ℕ → ℕ → ℕ
joined_of high middle low = (high * 2 ^ 28 + middle) * 2 ^ 28 + low

-- the float that a list of words starts with, by its bits: three words of kind 5, of which the first that is wrong or missing decides
unfoldable pub float_bits_of : List ℕ → Result ℕ Refusal
float_bits_of ws =
    and_then (due_word_of 5 (2 ^ 8) ws) (λ high. and_then (due_word_of 5 (2 ^ 28) (drop 1 ws))
    (λ middle. and_then (due_word_of 5 (2 ^ 28) (drop 2 ws)) (λ low. Ok (joined_of high middle low))))

-- the time that 64 bits say
unfoldable pub inbox_time_of : ℕ → Result Float Refusal
inbox_time_of n = cond (time_ok (of_bits binary64 n)) (Ok (of_bits binary64 n)) (Err ClockTime)

-- a clock message of a client id and the bits of its send time and its server time, of which the first that is out of range decides
unfoldable pub clock_of : ℕ → ℕ → ℕ → Reading
clock_of id send server = and_then (inbox_time_of send) (λ s. and_then (inbox_time_of server) (λ t. Ok (Clock id s t)))

-- ---- the first message of a list of words

-- what words say, and how many they are
pub record Front : Type 0 where
  pub message : Reading
  pub size : ℕ

-- a reading m of n words
abbrev pub front_with : Reading → ℕ → Front
front_with m n = record { message = m; size = n }

-- the first message by its first word: a handle of 24 bits in a word of kind 4 after a command's or a snapshot's, two floats after a clock's. The first
-- word that is wrong or missing decides
abbrev pub by_head : Head → List ℕ → Result Front Refusal
by_head (ForCommand s) ws = and_then (due_word_of 4 handle_room (drop 1 ws)) (λ h. Ok (front_with (Ok (Command s h)) 2))
by_head (ForSnapshot s) ws = and_then (due_word_of 4 handle_room (drop 1 ws)) (λ h. Ok (front_with (Ok (Snapshot s h)) 2))
by_head (ForClock id) ws = and_then (float_bits_of (drop 1 ws))
    (λ send. and_then (float_bits_of (drop 4 ws)) (λ server. Ok (front_with (clock_of id send server) 7)))

-- a wrong or missing word takes all the words there are, n of them, as nothing after it has a place
abbrev pub or_all : Result Front Refusal → ℕ → Front
or_all (Ok f) n = f
or_all (Err e) n = front_with (Err e) n

-- the first message of the words w ∷ ws
unfoldable pub front_of : ℕ → List ℕ → Front
front_of w ws = or_all (and_then (head_of w) (λ d. by_head d (w ∷ ws))) (length (w ∷ ws))

-- ---- all messages of a list of words

-- the messages of a list of words whose first k words belong to the message before
unfoldable pub messages_after : ℕ → List ℕ → List Reading
messages_after k [] = []
messages_after zero (w ∷ ws) = (front_of w ws).message ∷ messages_after ((front_of w ws).size - 1) ws
messages_after (suc k) (w ∷ ws) = messages_after k ws

-- the messages of an inbox, in their order; a wrong word or the end inside a message is the last of them
abbrev pub messages_of : List ℕ → List Reading
messages_of ws = messages_after 0 ws

-- ---- the message at a place

-- a first message as a step from the place at
abbrev pub step_by : ℕ → Front → Step
step_by at f = record { message = f.message; next = at + f.size }

-- the step from the place at, by the words from there on; at the end, where no message is read, nothing is left
abbrev pub step_in : ℕ → List ℕ → Step
step_in at [] = record { message = Err Cut; next = at }
step_in at (w ∷ ws) = step_by at (front_of w ws)

-- the message at a place of an inbox, and the place after it
unfoldable pub read_at : List ℕ → ℕ → Step
read_at ws at = step_in at (drop at ws)

-- whether some message of a list passes a test
abbrev pub some : (Reading → Bool) → List Reading → Bool
some p ms = list_any p ms
