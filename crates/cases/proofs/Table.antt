-- The table of cases holds: each row is computed. Assumes nothing.
use mathlib.Core.Path.{refl}
use lib.Ieee.{add, sub, mul, div, rem, round, lt, le, eq, of_int, to_signed, to_unsigned, of_bits, to_bits}
use Rattle.timestamp.specs.Timestamps.{signed_of, order_of, in_range}
use Rattle.timestamp.specs.Whole.{ceil_of, round_of}
use Rattle.timestamp.specs.FloatTimestamps.{from_unwrapped, from_seconds, stamp_of, ceil_stamp_of}
use Rattle.settings.specs.Settings.{lag_frames_of, discard_of, seconds_pass, thresholds_pass, samples_pass, counts_pass, passes_of}
use Rattle.clocksync.specs.Offset.{offset_of}
use Rattle.mean.specs.Mean.{sample_inserted, sorted_onto, sorted_of, sum_from, average_of, mean_of, samples_ok}
use Rattle.clocksync.specs.Clock.{held_of, new_of, ticked_of, heard_of, filled_of, settled_of, timer_ok, sound_clock}
use Rattle.inbox.specs.Inbox.{float_bits_of, inbox_time_of, clock_of, front_of, messages_after}
use Rattle.inbox_refusal.specs.Refusal.{refusal_in, refusal_of}
use Rattle.command.specs.Buffer.{laid, in_range_of, due_of, later_than, placed_of, inserted_of, leaving, dropped_of, moved_of, taken_of, rest_of, command_words}
use Rattle.command.specs.Entries.{entry_of, stamp_in, handle_in, plain_entry}
use Rattle.command.specs.Soundness.{in_order_after, in_order, sound_buffer}
use Rattle.tape.specs.Words.{step_word, command_word, snapshot_word, publish_word, none_word}
use Rattle.simulation.specs.World.{scheduled_of, step_of, load_of}
use Rattle.client.specs.Sides.{new_side_of, old_side_of, world_of, with_world, old_stamp_of, new_stamp_of, new_worlds_of, ledger_of, with_ledger, put_of}
use Rattle.client.specs.Sides.{and_then, done_at}
use Rattle.client.specs.Status.{later_of, overshot_of, newer_of, status_of}
use Rattle.client_receive.specs.Receive.{offered_base, offered_side, received_of, from_future_of, fresh_of, noted_of, snapshots_by, snapshots_of, notes_of}
use Rattle.client_publish.specs.Publish.{published_none, published_side, published_old, published_blended}
use Rattle.client_load.specs.Load.{readied_with, loaded_at, loaded_of}
use Rattle.client_frame.specs.Frame.{loaded_queued, blended_on, opened_of, stepped_side, caught_up_of, stepped_new, caught_of}
use Rattle.client_frame.specs.Frame.{simulated_of, shown_of, stops_of, snapshot_of, frame_opened, frame_of, frame_stops}
use Rattle.client_publish.specs.Ending.{weight_ok, time_of, displayed_of, revised_of, post_update_of}
use Rattle.fixed_timestepper.specs.TimeKeeper.{logical_of, drift_of, uncapped_of, compensated_of, framed, run_of, skips_of, maybe_skipped, unended_of}
use Rattle.fixed_timestepper.specs.TimeKeeper.{advanced_of}
use Rattle.fixed_timestepper.specs.TimeKeeper.{updated_of}
use Rattle.session_state.specs.Sound.{queued_sound, weight_sound, init_sound, buffers_sound, worlds_sound, overshoot_sound, connected_of, sound_of}
use Rattle.inbox_passes.specs.Passes.{has_for_worlds, heard_in, received_in, noted_in}
use Rattle.refusals.specs.Refusals.{once_verdict_by}
use Rattle.session.specs.Calls.{concluded_of, start_of, open_of, times_ok, verdict_at_once, clock_update_of, played_of, worlds_update_of, update_of}
use Rattle.session_report.specs.Report.{report_of}
use Rattle.session_stage.specs.Stage.{synced_of}
use Rattle.session_answers.specs.Answers.{accepted_of}
use Rattle.demand.specs.Events.{events_of}
use Rattle.cases.specs.Table.{Marked, settings_with, clock_at, opened, heard_once, heard_twice, heard_thrice, at_four, at_five, at_six, frame_one, frame_two}
use Rattle.cases.specs.Table.{frame_three, frame_four, trace_of_four}

-- the cases that document 01 marks P. The line below the signature opens what the rows compute with: the definitions of the calls, and the two runs
pub marked : Marked
unfolding entry_of stamp_in handle_in plain_entry
    add sub mul div rem round lt le eq of_int to_signed to_unsigned of_bits to_bits signed_of order_of in_range ceil_of round_of from_unwrapped from_seconds
    stamp_of ceil_stamp_of lag_frames_of discard_of seconds_pass thresholds_pass samples_pass counts_pass passes_of offset_of sample_inserted sorted_onto
    sorted_of
    sum_from average_of mean_of held_of new_of ticked_of heard_of filled_of settled_of samples_ok timer_ok sound_clock float_bits_of inbox_time_of clock_of
    front_of
    messages_after refusal_in refusal_of laid in_range_of due_of later_than placed_of inserted_of leaving dropped_of moved_of taken_of rest_of command_words
    in_order_after in_order sound_buffer step_word command_word snapshot_word publish_word none_word scheduled_of step_of load_of new_side_of old_side_of
    world_of
    with_world old_stamp_of new_stamp_of new_worlds_of ledger_of with_ledger put_of and_then done_at later_of overshot_of newer_of status_of offered_base
    offered_side
    received_of from_future_of fresh_of noted_of snapshots_by snapshots_of notes_of published_none published_side published_old published_blended readied_with
    loaded_at loaded_of loaded_queued blended_on opened_of stepped_side caught_up_of stepped_new caught_of simulated_of shown_of stops_of snapshot_of
    frame_opened
    frame_of frame_stops weight_ok time_of displayed_of revised_of post_update_of logical_of drift_of uncapped_of compensated_of framed run_of skips_of
    maybe_skipped
    advanced_of unended_of updated_of once_verdict_by concluded_of queued_sound weight_sound init_sound buffers_sound worlds_sound overshoot_sound connected_of
    sound_of has_for_worlds heard_in received_in noted_in start_of open_of times_ok verdict_at_once synced_of clock_update_of accepted_of played_of
    worlds_update_of
    update_of report_of events_of settings_with clock_at opened heard_once heard_twice heard_thrice at_four at_five at_six frame_one frame_two frame_three
    frame_four
    trace_of_four
marked =
    record {
      wrap_less = refl;
      half_cycle = (refl, refl);
      low_in = refl;
      high_in = refl;
      low_out = refl;
      high_out = refl;
      wraps = refl;
      saturates = (refl, refl);
      toward_zero = (refl, refl);
      mean = (refl, refl);
      tween = refl;
      loads = refl;
      behind = refl;
      left_behind = refl;
      run_opened = (refl, refl);
      run_syncs = (
        record { refusal = refl; frames = refl; steps = refl; tape = refl },
        record { refusal = refl; frames = refl; steps = refl; tape = refl },
        record { refusal = refl; frames = refl; steps = refl; tape = refl },
      );
      run_starts = refl;
      run_four = record { refusal = refl; frames = refl; steps = refl; tape = refl };
      run_five = record { refusal = refl; frames = refl; steps = refl; tape = refl };
      run_six = record { refusal = refl; frames = refl; steps = refl; tape = refl };
      run_ready = refl;
    }
