-- Names that the proofs use in addition to those of specs/Prelude, re-exported from one place. Declares nothing.
pub use Rattle.rv_debug.specs.Addresses.{HasPlace, IsSorted, IsSortedAbove, is_among, with_address, without_address}
unfoldable pub use Rattle.rv_debug.specs.Addresses.{with_room_for}
pub use Rattle.rv_debug.specs.Execute.{Executed, access_reply, execute_or_fault, csr_reply, dis_reply, hart_summary_text, harts_summary_text}
pub use Rattle.rv_debug.specs.Execute.{ran_reply}
unfoldable pub use Rattle.rv_debug.specs.Execute.{execute, execute_line}
pub use Rattle.rv_debug.specs.BenchState.{BenchState}
pub use Rattle.rv_debug.specs.BothBenches.{BenchesEquivExcept, BothExecuted, BothRan, SelectedEquivExcept, AvoidsHart, RunsOnNoHart, RunsOnNoneIn}
pub use Rattle.rv_debug.specs.BothBenches.{TargetsEquivExcept, both_do, both_execute_line, both_line_executed, can_scramble, can_scramble_in, go_on}
pub use Rattle.rv_debug.specs.BothBenches.{harts_shown, is_entered, region_in}
unfoldable pub use Rattle.rv_debug.specs.BothBenches.{both_execute, both_run, is_blind}
pub use Rattle.rv_debug.specs.Selected.{Selected}
pub use Rattle.rv_debug.specs.Noninterference.{RemainEquiv, AlikeBy, CommandsAvoidHart, ExecuteAlike, NoninterferenceLaw, CommandAlike, AllAlike}
pub use Rattle.rv_debug.specs.Noninterference.{DoneAlike, PokeLaw, PokesInto, RunsOnNoHartLaw, StayAlike}
pub use Rattle.rv_debug.specs.Effects.{Effect, Nothing, OneByte, Register, Steps, TimerLine, effect, done, entered_by, harts_stepped, run_effect}
pub use Rattle.rv_debug.specs.Effects.{steps_of}
pub use Rattle.rv_debug.specs.FastSteps.{AreFreeOf, FastSteps, IsFast, IsFreeOf, and_on, fast_stop, so_far_in}
pub use Rattle.rv_debug.specs.Isolation.{ChangesMemory, IntegrityLaw, IsPreservedIn, KeepsHart, LeavesHart, MayChange, PokesNone, UndisturbedByEffect}
pub use Rattle.rv_debug.specs.Isolation.{RunningLaw, PreservesHarts, PreservesUndisturbed, ReportsAccess, after_commands}
unfoldable pub use Rattle.rv_debug.specs.ReplyText.{csr_text, denied_outside_text, dis_text, entry_text, full_text, hart_text, memory_text}
unfoldable pub use Rattle.rv_debug.specs.ReplyText.{no_csr_text, no_hart_text, ok_text, outside_text, pc_text, pmp_text, ran_text, register_text}
unfoldable pub use Rattle.rv_debug.specs.ReplyText.{registers_text, stop_text, trap_text, verdict_text}
pub use Rattle.rv_debug.specs.Steps.{AfterRun, AfterSteps, Stepped, ended, no_steps, slots_with, with_step}
unfoldable pub use Rattle.rv_debug.specs.Steps.{run}
pub use Rattle.rv_debug.specs.Stops.{is_accessed, is_between, is_in, lower, lowest}
unfoldable pub use Rattle.rv_debug.specs.Stops.{lowest_accessed}
pub use Rattle.rv_debug.specs.Targets.{IsBare, TargetInvariant, selected_at, selected_of, selected_hart_state, selected_stepped, harts_of}
pub use Rattle.rv_debug.specs.Targets.{machine_stepped, machine_in, memory_of, over_memory, pc_of, target_stepped, with_selected, with_target}
pub use Rattle.rv_debug.specs.Targets.{world_name}
pub use Rattle.rv_debug.specs.ScheduledSteps.{AfterSchedule, schedule_start, with_own, with_scheduled_step}
unfoldable pub use Rattle.rv_debug.specs.ScheduledSteps.{scheduled_steps}
pub use Rattle.rv_enclaves.proofs.Alike.{itself, seen_block}
pub use Rattle.rv_memory.proofs.MemoryLaws.{byte_at-write, index-above, index-below, length-write, write-is}
pub use Rattle.rv_monitor.proofs.EquivLemmas.{equiv_itself, changed_equiv, shared_equiv}
pub use Rattle.rv_monitor.proofs.InvariantLemmas.{change_preserves, invariant_by_size, invariant_law, hart_view_invariant, sched_invariant}
pub use Rattle.rv_monitor.proofs.InvariantLemmas.{written_invariant}
pub use Rattle.rv_monitor.proofs.MonitoredAlike.{noninterference, gone_equal}
pub use Rattle.rv_monitor.proofs.HartCases.{by_hart, past_hart_state, step_count, step_programmed}
pub use Rattle.std.proofs.lemmas.Bool.{and_from, and_parts, both_ways, cases_Bool, cases_eq, cases_lt, eq-eqb, le-leb, leb-true, ltb-true}
pub use Rattle.std.proofs.lemmas.Bool.Decides.{nat_tests}
pub use Rattle.std.proofs.lemmas.List.{drop_all, drop_more, flat_map_more, get_or-set_other}
pub use Rattle.std.specs.List.{find, flat_map, insert, list_all, range_with_len, remove}
pub use Rattle.std.specs.Option.{option_map, option_or}
