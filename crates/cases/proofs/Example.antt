-- The premises of demand 3 hold of two sessions and the calls from them. Assumes nothing.
use mathlib.Core.Path.{refl}
use native.Mathlib.Omega.{arith}
use lib.Ieee.{fits, add, sub, mul, div, rem, round, lt, le, eq, of_int, to_signed, to_unsigned, of_bits, to_bits}
use Rattle.timestamp.specs.Timestamps.{signed_of, order_of, in_range}
use Rattle.timestamp.specs.Whole.{ceil_of, round_of}
use Rattle.timestamp.specs.FloatTimestamps.{from_unwrapped, from_seconds, stamp_of, ceil_stamp_of}
use Rattle.settings.specs.Settings.{lag_frames_of, discard_of, seconds_pass, thresholds_pass, samples_pass, counts_pass, passes_of}
use Rattle.clocksync.specs.Offset.{offset_of}
use Rattle.mean.specs.Mean.{sample_inserted, sorted_onto, sorted_of, sum_from, average_of, mean_of, samples_ok}
use Rattle.clocksync.specs.Clock.{held_of, new_of, ticked_of, heard_of, filled_of, settled_of, timer_ok, sound_clock}
use Rattle.inbox.specs.Inbox.{float_bits_of, inbox_time_of, clock_of, front_of, messages_after}
use Rattle.inbox_refusal.specs.Refusal.{refusal_in, refusal_of}
use Rattle.command.specs.Buffer.{laid, in_range_of, due_of, later_than, placed_of, inserted_of, leaving, dropped_of, moved_of, taken_of, rest_of, command_words}
use Rattle.command.specs.Entries.{entry_of, stamp_in, handle_in, plain_entry}
use Rattle.command.specs.Soundness.{in_order_after, in_order, sound_buffer}
use Rattle.tape.specs.Words.{step_word, command_word, snapshot_word, publish_word, none_word, snapshot_words}
use Rattle.simulation.specs.World.{scheduled_of, step_of, load_of}
use Rattle.client.specs.Sides.{new_side_of, old_side_of, world_of, with_world, old_stamp_of, new_stamp_of, new_worlds_of, ledger_of, with_ledger, put_of}
use Rattle.client.specs.Sides.{and_then, done_at}
use Rattle.client.specs.Status.{later_of, overshot_of, newer_of, status_of}
use Rattle.client_receive.specs.Receive.{offered_base, offered_side, received_of, from_future_of, fresh_of, noted_of, snapshots_by, snapshots_of, notes_of}
use Rattle.client_publish.specs.Publish.{published_none, published_side, published_old, published_blended}
use Rattle.client_load.specs.Load.{readied_with, loaded_at, loaded_of}
use Rattle.client_frame.specs.Frame.{loaded_queued, blended_on, opened_of, stepped_side, caught_up_of, stepped_new, caught_of}
use Rattle.client_frame.specs.Frame.{simulated_of, shown_of, stops_of, snapshot_of, frame_opened, frame_of, frame_stops}
use Rattle.client_publish.specs.Ending.{weight_ok, time_of, displayed_of, revised_of, post_update_of}
use Rattle.fixed_timestepper.specs.TimeKeeper.{logical_of, drift_of, uncapped_of, compensated_of, framed, run_of, skips_of, maybe_skipped, unended_of}
use Rattle.fixed_timestepper.specs.TimeKeeper.{advanced_of}
use Rattle.fixed_timestepper.specs.TimeKeeper.{updated_of}
use Rattle.session_state.specs.Sound.{queued_sound, weight_sound, init_sound, buffers_sound, worlds_sound, overshoot_sound, connected_of, sound_of}
use Rattle.inbox_passes.specs.Passes.{has_for_worlds, heard_in, received_in, noted_in}
use Rattle.refusals.specs.Refusals.{once_verdict_by}
use Rattle.session_answers.specs.Answers.{Reply, Updates, answer_of, refused_with, accepted_of}
use Rattle.session_stage.specs.Stage.{synced_of}
use Rattle.session.specs.Calls.{start_of, open_of, times_ok, verdict_at_once, clock_update_of, concluded_of, played_of, worlds_update_of, update_of}
use Rattle.session_issue.specs.Issue.{issue_of}
use Rattle.demand.specs.Calls.{Chain}
use Rattle.demand.specs.Demand.{Demand3}
use Rattle.demand.proofs.Demand.{demand_3}
use Rattle.cases.specs.Table.{settings_with, clock_at, opened, heard_once, heard_twice, heard_thrice, frame_one, at_four, at_five, at_six}
use Rattle.cases.specs.Example.{unplayed, catching, playing, Counts, Example}

-- what is computed, under the definitions of the calls
counts : Counts
unfolding entry_of stamp_in handle_in plain_entry
    fits refused_with add sub mul div rem round lt le eq of_int to_signed to_unsigned of_bits to_bits signed_of order_of in_range ceil_of round_of
    from_unwrapped from_seconds stamp_of ceil_stamp_of lag_frames_of discard_of seconds_pass thresholds_pass samples_pass counts_pass passes_of offset_of
    sample_inserted sorted_onto sorted_of sum_from average_of mean_of held_of new_of ticked_of heard_of filled_of settled_of samples_ok timer_ok sound_clock
    float_bits_of inbox_time_of clock_of front_of messages_after refusal_in refusal_of laid in_range_of due_of later_than placed_of inserted_of leaving
    dropped_of
    moved_of taken_of rest_of command_words in_order_after in_order sound_buffer step_word command_word snapshot_word publish_word none_word scheduled_of
    step_of
    load_of new_side_of old_side_of world_of with_world old_stamp_of new_stamp_of new_worlds_of ledger_of with_ledger put_of and_then done_at later_of
    overshot_of newer_of
    status_of offered_base offered_side received_of from_future_of fresh_of noted_of snapshots_by snapshots_of notes_of published_none published_side
    published_old
    published_blended readied_with loaded_at loaded_of loaded_queued blended_on opened_of stepped_side caught_up_of stepped_new caught_of simulated_of shown_of
    stops_of snapshot_of frame_opened frame_of frame_stops weight_ok time_of displayed_of revised_of post_update_of logical_of drift_of uncapped_of
    compensated_of
    framed run_of skips_of maybe_skipped advanced_of updated_of concluded_of once_verdict_by unended_of queued_sound weight_sound init_sound buffers_sound
    worlds_sound overshoot_sound connected_of sound_of has_for_worlds heard_in received_in noted_in start_of open_of times_ok verdict_at_once synced_of
    clock_update_of
    accepted_of played_of worlds_update_of update_of issue_of snapshot_words settings_with clock_at opened heard_once heard_twice heard_thrice frame_one at_four
    at_five at_six
counts =
    record {
      catches = record {
        typed = record { floats = record { timestep = tt; timer = tt; slots = refl }; left = omega arith; right = omega arith; queued = tt };
        sound = refl;
        exists = refl;
        answers = refl;
        frames = refl;
        caught = refl;
      };
      plays = record {
        typed = record { floats = record { timestep = tt; timer = tt; slots = refl }; left = omega arith; right = omega arith; queued = tt };
        sound = refl;
        exists = refl;
        answers = refl;
        frames = refl;
        caught = refl;
      };
      loads = refl;
      taken_left = refl;
      taken_right = refl;
    }

-- an update is answered as its contract says
answered : (a : Reply) → Updates a (answer_of a) a.tape
answered a =
    record { answer = refl; tape = refl }

chain_catching : Chain (heard_thrice 3 98).session catching
unfolding frame_one
chain_catching = (answered frame_one, (answered (unplayed frame_one.session 102), (refl, tt)))

chain_playing : Chain (heard_thrice 2 1).session playing
unfolding at_four at_five at_six
chain_playing = (answered at_four, (answered at_five, (answered at_six, (answered (unplayed at_six.session 7), (refl, tt)))))

-- and so the theorem tells of both
pub example : Example
unfolding Demand3
example =
    let a = counts.catches in
    let b = counts.plays in
    record {
      counts = counts;
      chain_catching = chain_catching;
      chain_playing = chain_playing;
      told_catching = demand_3 (heard_thrice 3 98).session catching a.typed a.sound a.exists chain_catching;
      told_playing = demand_3 (heard_thrice 2 1).session playing b.typed b.sound b.exists chain_playing;
    }
