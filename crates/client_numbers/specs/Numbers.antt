-- The numbers of a client, and what a frame and a skip make of them: document 01, "src/client.rs". No number depends on what a command buffer holds.
-- Definitions only. Assumes nothing.
use Rattle.std.specs.Prelude.{ℕ, zero, suc, ◌+◌, ◌-◌, ◌%◌, ◌^◌, Bool, true, false, cond, ◌==◌, nat_lt, Float, Option, Some, None}
use Rattle.std.specs.Float.{binary64}
use Rattle.std.specs.Float.Ieee.{add, lt, eq}
use Rattle.timestamp.specs.Floats.{zero64, one64, clamped_of}
use Rattle.timestamp.specs.declared.Timestamp.{Timestamp}
use Rattle.timestamp.specs.Timestamps.{difference_of}
use Rattle.tape.specs.declared.Side.{Side}
use Rattle.tape.specs.Sides.{other_of}
use Rattle.simulation.specs.World.{next_stamp}
use Rattle.client.specs.declared.FastforwardingHealth.TheVariants.{Healthy, Obsolete, Overshot}
use Rattle.client.specs.declared.ReconciliationStatus.{ReconciliationStatus}
use Rattle.client.specs.declared.ReconciliationStatus.TheVariants.{AwaitingSnapshot, Fastforwarding, Blending}
use Rattle.client.specs.declared.QueuedSnapshot.{QueuedSnapshot}
use Rattle.client.specs.Status.{overshot_of, newer_of, status_by}
use Rattle.client_publish.specs.Publish.{near_one}
use Rattle.client_frame.specs.declared.Rules.{Rules}
use Rattle.client_frame.specs.Frame.{blended_by, is_obsolete, too_far_of}

-- the stamps of the old and the new world, whether snapshots have initialised them, the side of the new one, what is queued, the weight, the last two published
-- states, and the count of steps of the new world
pub record Numbers : Type 0 where
  pub old : Timestamp
  pub new : Timestamp
  pub oldinit : Bool
  pub newinit : Bool
  pub side : Side
  pub queued : Option QueuedSnapshot
  pub weight : Float
  pub before : Option Timestamp
  pub after : Option Timestamp
  pub steps : ℕ

-- what a frame opens with: nothing, another weight, a load into the old side or into the new one, or a reset of the new world to the old one's stamp
pub data Opens : Type 0 where
  Unchanged : Opens
  Weight : (weight : Float) → Opens
  LoadOld : (snapshot : QueuedSnapshot) → Opens
  LoadNew : (snapshot : QueuedSnapshot) → Opens
  Reset : Opens

-- what a frame publishes: no world, the old one, the new one, or a mix with the weight of the new one
pub data Shows : Type 0 where
  NoWorld : Shows
  OldWorld : Shows
  NewWorld : Shows
  Mix : (weight : Float) → Shows

-- a frame: what it opens with, the steps of the new world, what it publishes, whether the Rust stops in it, and the numbers after it
pub record Frame : Type 0 where
  pub opens : Opens
  pub steps : ℕ
  pub shows : Shows
  pub stops : Bool
  pub next : Numbers

-- ---- the status and what it opens a frame with

-- the status
unfoldable pub status_in : Numbers → ReconciliationStatus
status_in n =
    status_by (n.new.0 == n.old.0) (lt n.weight one64) (overshot_of n.new n.old) (newer_of n.queued n.new) n.weight

-- what a frame of this status opens with: q is queued, t is the weight and p its progress
abbrev pub opens_with : ReconciliationStatus → Option QueuedSnapshot → Float → Float → Opens
opens_with AwaitingSnapshot None t p = Unchanged
opens_with AwaitingSnapshot (Some q) t p = LoadOld q
opens_with (Blending x) q t p = Weight (clamped_of (add binary64 t p))
opens_with (Fastforwarding Healthy) q t p = Unchanged
opens_with (Fastforwarding Obsolete) None t p = Unchanged
opens_with (Fastforwarding Obsolete) (Some q) t p = LoadNew q
opens_with (Fastforwarding Overshot) q t p = Reset

-- numbers with other stamps of the worlds, the old one's first, and whether these are initialised
abbrev pub numbers_with : Numbers → Timestamp → Timestamp → Bool → Bool → Numbers
numbers_with n o t i j =
    record {
      old = o;
      new = t;
      oldinit = i;
      newinit = j;
      side = n.side;
      queued = n.queued;
      weight = n.weight;
      before = n.before;
      after = n.after;
      steps = n.steps;
    }

-- a snapshot of the stamp t is loaded into a side: it is the new one, nothing is queued, and the weight is 0
abbrev pub loaded_into : Numbers → Side → Timestamp → Bool → Timestamp → Numbers
loaded_into n x o i t =
    record {
      old = o;
      new = t;
      oldinit = i;
      newinit = true;
      side = x;
      queued = None;
      weight = zero64;
      before = n.before;
      after = n.after;
      steps = n.steps;
    }

-- the numbers with another weight
abbrev pub weighted_with : Numbers → Float → Numbers
weighted_with n t =
    record {
      old = n.old;
      new = n.new;
      oldinit = n.oldinit;
      newinit = n.newinit;
      side = n.side;
      queued = n.queued;
      weight = t;
      before = n.before;
      after = n.after;
      steps = n.steps;
    }

-- the numbers after what a frame opens with: a load into the old side makes the new world the old one
abbrev pub opened_by : Opens → Numbers → Numbers
opened_by Unchanged n = n
opened_by (Weight t) n = weighted_with n t
opened_by (LoadOld q) n = loaded_into n (other_of n.side) n.new n.newinit q.stamp
opened_by (LoadNew q) n = loaded_into n n.side n.old n.oldinit q.stamp
opened_by Reset n = numbers_with n n.old n.old n.oldinit n.newinit

-- ---- the worlds' steps

-- the new world, with the stamp n, has reached the stamp o: it is level with it, or after it by less than 32,768 modulo 65,536
unfoldable pub has_reached : Timestamp → Timestamp → Bool
has_reached o n = nat_lt (difference_of n.0 o.0) 32768

-- the steps that take the new world, with the stamp n, to the stamp o, m at most: where it has not reached o it is behind by what is left of 65,536
unfoldable pub steps_to : Timestamp → Timestamp → ℕ → ℕ
steps_to o n m = cond (has_reached o n) 0 (cond (nat_lt (65536 - difference_of n.0 o.0) m) (65536 - difference_of n.0 o.0) m)

-- one more step counted
abbrev pub count_step : ℕ → ℕ
count_step n = (n + 1) % 2 ^ 32

-- f applied k times
unfoldable pub times : {A : Type 0} → ℕ → (A → A) → A → A
times zero f x = x
times (suc k) f x = times k f (f x)

-- the numbers after a step of the old world
abbrev pub old_step_by : Numbers → Numbers
old_step_by n = numbers_with n (next_stamp n.old) n.new n.oldinit n.newinit

-- the numbers with another count of steps
abbrev pub counted_with : Numbers → ℕ → Numbers
counted_with n c =
    record {
      old = n.old;
      new = n.new;
      oldinit = n.oldinit;
      newinit = n.newinit;
      side = n.side;
      queued = n.queued;
      weight = n.weight;
      before = n.before;
      after = n.after;
      steps = c;
    }

-- the numbers after k steps of the new world
abbrev pub new_steps_by : ℕ → Numbers → Numbers
new_steps_by k n = counted_with (numbers_with n n.old (times k next_stamp n.new) n.oldinit n.newinit) (times k count_step n.steps)

-- the worlds' steps of a frame
unfoldable pub stepped_by : ℕ → Numbers → Numbers
stepped_by k n = new_steps_by k (old_step_by n)

-- ---- what is published

-- the old world is initialised: weight 0 gives old, weight near 1 gives new, any other a mix
unfoldable pub shows_both : Float → Shows
shows_both t = cond (eq t zero64) OldWorld (cond (near_one t) NewWorld (Mix t))

-- what is published by the weight or not, by whether old and new are initialised, and by the weight
abbrev pub shows_by : Bool → Bool → Bool → Float → Shows
shows_by true true j t = shows_both t
shows_by true false true t = NewWorld
shows_by true false false t = NoWorld
shows_by false true j t = OldWorld
shows_by false false j t = NoWorld

-- the state that is published
abbrev pub state_of : Shows → Timestamp → Timestamp → Option Timestamp
state_of NoWorld o n = None
state_of OldWorld o n = Some o
state_of NewWorld o n = Some n
state_of (Mix t) o n = Some o

-- the numbers with another published state: the one before it is the last one
abbrev pub shown_with : Numbers → Option Timestamp → Numbers
shown_with n l =
    record {
      old = n.old;
      new = n.new;
      oldinit = n.oldinit;
      newinit = n.newinit;
      side = n.side;
      queued = n.queued;
      weight = n.weight;
      before = n.after;
      after = l;
      steps = n.steps;
    }

-- the numbers after what is published
unfoldable pub shown_by : Shows → Numbers → Numbers
shown_by x n = shown_with n (state_of x n.old n.new)

-- ---- refusal 26

-- a Healthy frame from n to e stops: the new world is 32,768 behind, or the frame ends Obsolete
unfoldable pub healthy_stops : Numbers → Numbers → Bool
healthy_stops n e = cond (difference_of n.old.0 n.new.0 == 32768) true (is_obsolete (status_in e))

-- a frame of this status from n to e stops
abbrev pub stops_in : ReconciliationStatus → Numbers → Numbers → Bool
stops_in AwaitingSnapshot n e = false
stops_in (Blending t) n e = false
stops_in (Fastforwarding Healthy) n e = healthy_stops n e
stops_in (Fastforwarding Obsolete) n e = too_far_of n.queued n.old
stops_in (Fastforwarding Overshot) n e = false

-- ---- a frame

-- what a frame opens with
unfoldable pub frame_opens : Rules → Numbers → Opens
frame_opens rules n = opens_with (status_in n) n.queued n.weight rules.progress

-- the numbers when it has opened
unfoldable pub opened_numbers : Rules → Numbers → Numbers
opened_numbers rules n = opened_by (frame_opens rules n) n

-- its steps of the new world
unfoldable pub frame_steps : Rules → Numbers → ℕ
frame_steps rules n = steps_to (next_stamp (opened_numbers rules n).old) (opened_numbers rules n).new rules.m

-- the numbers after its steps
unfoldable pub stepped_numbers : Rules → Numbers → Numbers
stepped_numbers rules n = stepped_by (frame_steps rules n) (opened_numbers rules n)

-- what it publishes
unfoldable pub frame_shows : Rules → Numbers → Shows
frame_shows rules n =
    shows_by (blended_by (status_in n) n.queued) (stepped_numbers rules n).oldinit (stepped_numbers rules n).newinit (stepped_numbers rules n).weight

-- the numbers after it
unfoldable pub next_numbers : Rules → Numbers → Numbers
next_numbers rules n = shown_by (frame_shows rules n) (stepped_numbers rules n)

-- a frame
unfoldable pub decided_of : Rules → Numbers → Frame
decided_of rules n =
    record {
      opens = frame_opens rules n;
      steps = frame_steps rules n;
      shows = frame_shows rules n;
      stops = stops_in (status_in n) n (next_numbers rules n);
      next = next_numbers rules n;
    }

-- ---- a skip

-- a skip to a stamp: equal stamps move together
unfoldable pub skipped_numbers : Numbers → Timestamp → Numbers
skipped_numbers n t = numbers_with n t (cond (n.new.0 == n.old.0) t n.new) n.oldinit n.newinit
