-- The ledgers of one call, for each side: held before + taken + copied = applied + left out + replaced + held after, and `applied` are its command words on the
-- tape. Assumes nothing.
use mathlib.Core.Path.{◌≡◌, refl, ap, sym, ◌∙◌}
use mathlib.Core.Bool.{Bool, true, false, cond}
use mathlib.Core.List.{List, [], ◌∷◌}
use Prim.Native.Nat.{ℕ, zero, suc, ◌+◌, ◌-◌, ◌*◌, ◌^◌, ◌≤◌, ◌<◌}
use native.Mathlib.Omega.{arith}
use lib.Dec.{eqb}
use lib.ListN.{length, replicate}
use lib.Ieee.{Float}
use Rattle.tape.specs.Words.{commands_on}
use Rattle.tape.proofs.Counting.{commands_on-append, commands_on_zeros}
use Rattle.clocksync.specs.declared.Clock.{Clock}
use Rattle.std.specs.Prelude.{Ok, Err}
use Rattle.inbox.specs.declared.Message.TheVariants.{Command, Snapshot, Clock as Timed}
use Rattle.inbox.specs.Inbox.{Reading, messages_of, messages_after, front_of}
use Rattle.refusals.specs.declared.Refusal.{Refusal}
use Rattle.refusals.specs.Refusals.{accepted}
use Rattle.inbox_refusal.specs.Refusal.{refusal_of}
use Rattle.inbox.specs.Passes.{over}
use Rattle.inbox_refusal.proofs.Refusals.{accepted_few}
use Rattle.command.specs.Buffer.{held}
use Rattle.command.proofs.Soundness.{sound_few}
use Rattle.command.specs.Entries.{entry_of}
use Rattle.client.specs.declared.ClientWorldSimulations.{ClientWorldSimulations}
use Rattle.std.specs.Prelude.{Option, Some, None}
use Rattle.client.specs.declared.Ledger.{Ledger}
use Rattle.client.specs.declared.Scene.{Scene}
use Rattle.client_receive.specs.Receive.{Received}
use Rattle.client.specs.Ledgers.{empty_ledger}
use Rattle.client.specs.Sides.{world_of, ledger_of}
use Rattle.session_state.specs.Session.{with_worlds_of}
use Rattle.session_laws.proofs.SoundParts.{sound_facts}
use Rattle.session_laws.proofs.Ways.{run_in, update_by_ways, issue_by_ways}
use Rattle.session_laws.proofs.LedgerBooks.{Books}
use Rattle.session_laws.proofs.LedgerSides.{held_at, Kept, kept_more}
use Rattle.session_laws.proofs.LedgerFrames.{SameBuffers, same_buffers_then, same_buffers_kept, KeptBy, updated_kept}
use Rattle.session_laws.proofs.LedgerArrivals.{received_kept, notes_alike}
use Rattle.fixed_timestepper.specs.TimeKeeper.{Run}
use Rattle.session_state.specs.declared.Stage.{Stage}
use Rattle.session_state.specs.declared.Stage.TheVariants.{SyncingClock, SyncingInitialState, Ready}
use Rattle.session_state.specs.declared.Session.{Session}
use Rattle.session_state.specs.Session.{has_worlds}
use Rattle.timestamp.proofs.Basics.{not_true}
use Rattle.session_issue.specs.declared.IssueAnswer.{IssueAnswer}
use Rattle.session_state.specs.Sound.{sound_of}
use Rattle.inbox_passes.specs.Passes.{receive_one, received_in, note_one, noted_in}
use Rattle.session.specs.Calls.{clock_after, request_of, lagged_of, scene_after, played_of, update_of, unreceived}
use Rattle.session_answers.specs.Answers.{Reply, refused_with, accepted_of}
use Rattle.session_state.specs.Session.{scene_of}
use Rattle.client.specs.Ledgers.{closed_of}
use Rattle.session_stage.specs.Stage.{stage_after}
use Rattle.session_issue.specs.Issue.{unissued}
use Rattle.session_issue.specs.Issue.{received_now, issued_entry, issue_of}

-- ---- what a sound session holds

-- each buffer holds at most 64
pub record Filled (w : ClientWorldSimulations) : Type 0 where
  pub left : length (held w.left.commands) ≤ 64
  pub right : length (held w.right.commands) ≤ 64
  pub base : length (held w.base) ≤ 64

pub sound_filled : (s : Session) → sound_of s ≡ true → Filled s.worlds
sound_filled s h =
    let k = (sound_facts s h).kept in
    record {
      left = sound_few s.worlds.left.commands k.left;
      right = sound_few s.worlds.right.commands k.right;
      base = sound_few s.worlds.base k.base;
    }

-- the books of a call at its start
start_kept : (x : ℕ) (s : Session) → Filled s.worlds → Kept x (held_at x s.worlds) 64 0 (scene_of s)
unfolding ledger_of world_of
start_kept x s f = record { books = start (eqb x 0); base = f.base }
  where
    start : (b : Bool) → Books (length (held (cond b s.worlds.left s.worlds.right).commands)) 64 0 (cond b empty_ledger empty_ledger)
        (length (held (cond b s.worlds.left s.worlds.right).commands))
    start true = record { balance = omega arith; words = refl; most = omega (arith, f.left) }
    start false = record { balance = omega arith; words = refl; most = omega (arith, f.right) }

-- ---- the inbox

-- no more messages than words
messages_few : (k : ℕ) (ws : List ℕ) → length (messages_after k ws) ≤ length ws
unfolding messages_after
messages_few zero [] = omega arith
messages_few (suc k) [] = omega arith
messages_few zero (w ∷ ws) = omega (arith, messages_few ((front_of w ws).size - 1) ws)
messages_few (suc k) (w ∷ ws) = omega (arith, messages_few k ws)

one_kept : {h n k : ℕ} (x : ℕ) (r : Received) (m : Reading) → x < 2 → n + 2 < 2 ^ 64 → Kept x h n k r.scene → Kept x h (n + 2) k (receive_one r m).scene
one_kept x r (Ok (Command t i)) p z c = received_kept x r.scene (entry_of t i) p z c
one_kept x r (Ok (Snapshot t i)) p z c = kept_more (omega arith) c
one_kept x r (Ok (Timed i t u)) p z c = kept_more (omega arith) c
one_kept x r (Err e) p z c = kept_more (omega arith) c

all_kept : {h n k : ℕ} (x : ℕ) (ms : List Reading) (r : Received) → x < 2 → n + length ms * 2 < 2 ^ 64 → Kept x h n k r.scene
    → Kept x h (n + length ms * 2) k (over receive_one r ms).scene
all_kept x [] r p z c = kept_more (omega arith) c
all_kept {h = h} {n = n} {k = k} x (m ∷ ms) r p z c = kept_more (omega arith) (all_kept {n = n + 2} x ms (receive_one r m) p (omega arith) (one_kept x r m
    p (omega arith) c))

one_alike : (w : ClientWorldSimulations) (m : Reading) → SameBuffers w (note_one w m)
one_alike w (Ok (Command t i)) = record { left = refl; right = refl; base = refl }
one_alike w (Ok (Snapshot t i)) = notes_alike w t i
one_alike w (Ok (Timed i t u)) = record { left = refl; right = refl; base = refl }
one_alike w (Err e) = record { left = refl; right = refl; base = refl }

all_alike : (ms : List Reading) (w : ClientWorldSimulations) → SameBuffers w (over note_one w ms)
all_alike [] w = record { left = refl; right = refl; base = refl }
all_alike (m ∷ ms) w = same_buffers_then (one_alike w m) (all_alike ms (note_one w m))

noted_alike : (inbox : List ℕ) (w : ClientWorldSimulations) → SameBuffers w (noted_in inbox w)
unfolding noted_in
noted_alike inbox w = all_alike (messages_of inbox) w

commands_kept : {h : ℕ} (x : ℕ) (inbox : List ℕ) (r : Received) → x < 2 → refusal_of inbox ≡ accepted → Kept x h 64 0 r.scene
    → Kept x h 8256 0 (received_in inbox r).scene
unfolding received_in
commands_kept x inbox r p e c =
    let f : length (messages_of inbox) ≤ 4096 = omega (arith, messages_few 0 inbox, accepted_few inbox e) in
    kept_more (omega arith) (all_kept x (messages_of inbox) r p (omega arith) c)

-- the scene after the inbox of an update
after_kept : (x : ℕ) (s : Session) (inbox : List ℕ) → x < 2 → refusal_of inbox ≡ accepted → Filled s.worlds
    → Kept x (held_at x s.worlds) 8256 0 (scene_after s inbox)
after_kept x s inbox p e f =
    let r : Scene = (received_in inbox (unreceived s)).scene in
    same_buffers_kept r (noted_in inbox r.worlds) (noted_alike inbox r.worlds) (commands_kept x inbox (unreceived s) p e (start_kept x s f))

-- the frames of an update
played_kept : (x : ℕ) (s : Session) (c : Clock) (delta seconds : Float) (inbox : List ℕ) → x < 2 → refusal_of inbox ≡ accepted → Filled s.worlds
    → KeptBy x (held_at x s.worlds) 12416 0 (played_of s c delta seconds inbox)
unfolding played_of
played_kept x s c delta seconds inbox p e f =
    updated_kept x (held_at x s.worlds) p s.settings (scene_after s inbox) s.overshoot delta (lagged_of s c seconds) (omega arith)
    (after_kept x s inbox p e f)

-- ---- what a call answers

-- a call that takes the session s to t, with the ledger l of the side x and so many command words of it on the tape
pub record Settles (x : ℕ) (s t : Session) (l : Ledger) (marks : ℕ) : Type 0 where
  pub balance : held_at x s.worlds + l.taken + l.copied ≡ l.applied + l.leftout + l.replaced + held_at x t.worlds
  pub applied : l.applied ≡ marks
  pub stage : has_worlds t.stage ≡ true

-- so for the reply of an update
abbrev pub Replied : ℕ → Session → Reply → Type 0
Replied x s a = Settles x s a.session (cond (eqb x 0) a.left a.right) (commands_on x a.tape)

-- and for the answer of an issue, which has no tape
abbrev pub Issued : ℕ → Session → IssueAnswer → Type 0
Issued x s a = Settles x s a.session (cond (eqb x 0) a.left a.right) 0

-- nothing happens
none_settles : (b : Bool) (x : ℕ) (s : Session) (marks : ℕ) → has_worlds s.stage ≡ true → marks ≡ 0 → Settles x s s (cond b empty_ledger empty_ledger) marks
none_settles true x s marks w e = record { balance = omega arith; applied = sym e; stage = w }
none_settles false x s marks w e = record { balance = omega arith; applied = sym e; stage = w }

-- the ledger of a side with what it holds
closed_settles : {n k : ℕ} (x : ℕ) (s t : Session) (u : Scene) (marks : ℕ) → x < 2 → t.worlds ≡ u.worlds → has_worlds t.stage ≡ true → k ≡ marks
    → Kept x (held_at x s.worlds) n k u → Settles x s t (cond (eqb x 0) (closed_of u.left u.worlds.left.commands)
    (closed_of u.right u.worlds.right.commands)) marks
unfolding ledger_of
closed_settles zero s t u marks p e w m c =
    record { balance = omega (arith, c.books.balance, ap (held_at 0) e); applied = c.books.words ∙ m; stage = w }
closed_settles (suc zero) s t u marks p e w m c =
    record { balance = omega (arith, c.books.balance, ap (held_at 1) e); applied = c.books.words ∙ m; stage = w }
closed_settles (suc (suc x)) s t u marks p e w m c = absurd (omega arith)

-- ---- update

-- a refused one
refused_settles : (e : Refusal) (x : ℕ) (s : Session) (len : ℕ) → has_worlds s.stage ≡ true → Replied x s (refused_with e s len)
unfolding refused_with
refused_settles e x s len w = none_settles (eqb x 0) x s (commands_on x (replicate len 0)) w (commands_on_zeros x len)

-- the worlds of a session that an update leaves exist
pub stage_kept : (g : Stage) (t : Option Float) → has_worlds g ≡ true → has_worlds (stage_after g t) ≡ true
stage_kept SyncingClock t h = h
stage_kept SyncingInitialState None h = refl
stage_kept SyncingInitialState (Some x) h = refl
stage_kept Ready t h = refl

accepted_settles : {n : ℕ} (x : ℕ) (s : Session) (c : Clock) (request : Bool) (r : Run) (len : ℕ) → x < 2 → has_worlds s.stage ≡ true
    → KeptBy x (held_at x s.worlds) n 0 r → Replied x s (accepted_of s c request r len)
unfolding accepted_of
accepted_settles x s c request r len p w g =
    let ws : List ℕ = r.played.words in
    closed_settles x s _ r.played.scene _ p refl (stage_kept s.stage r.played.scene.worlds.published.time w)
    (omega (arith, commands_on-append x ws (replicate (len - length ws) 0), commands_on_zeros x (len - length ws))) g

-- update: from a session whose worlds exist, sound or not
pub update_settles : (x : ℕ) (s : Session) (delta seconds : Float) (inbox : List ℕ) (len : ℕ) → x < 2 → has_worlds s.stage ≡ true
    → Replied x s (update_of s delta seconds inbox len)
update_settles x s delta seconds inbox len p w =
    update_by_ways {P = Replied x s} s delta seconds inbox len
    (record {
      refuses = λ e. refused_settles e x s len w;
      syncs = λ j z. not_true (sym z ∙ w);
      plays = λ j z d ok.
          accepted_settles x s (clock_after s delta seconds inbox) (request_of s delta) (run_in s delta seconds inbox) len p w
          (played_kept x s (clock_after s delta seconds inbox) delta seconds inbox p j.inbox (sound_filled s j.sound));
    })

-- ---- issue

unissued_settles : (e : Refusal) (x : ℕ) (s : Session) → has_worlds s.stage ≡ true → Issued x s (unissued e s)
unissued_settles e x s w = none_settles (eqb x 0) x s 0 w refl

-- issue: from a session whose worlds exist, sound or not
pub issue_settles : (x : ℕ) (s : Session) (i : ℕ) → x < 2 → has_worlds s.stage ≡ true → Issued x s (issue_of s i)
issue_settles x s i p w =
    issue_by_ways (Issued x s) s i (λ e. unissued_settles e x s w)
    (λ h f. closed_settles x s (with_worlds_of s (received_now s i).scene.worlds) (received_now s i).scene 0 p refl w refl
    (received_kept x (scene_of s) (issued_entry s i) p (omega arith) (start_kept x s (sound_filled s f))))
