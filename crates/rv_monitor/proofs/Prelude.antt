-- Names that the proofs use in addition to those of specs/Prelude, re-exported from one place. Declares nothing.
pub use Rattle.rv_enclaves.proofs.AccessLemmas.{permitted_apart, reach_law, accessible_apart, small_ram, some_bytes}
pub use Rattle.rv_enclaves.proofs.Refusals.{SlotIsAccepted, MayCreate, MayMeasure, may_create, may_measure, may_take, same_create_refusals}
pub use Rattle.rv_enclaves.proofs.Refusals.{same_measure_refusals, takes_rests}
pub use Rattle.rv_enclaves.proofs.Slots.{at_other_slot, at_written_slot}
pub use Rattle.rv_enclaves.proofs.SharedInvariantLemmas.{created_sound, destroyed_sound, entered_sound, free_slot_from, left_sound, live_in_range}
pub use Rattle.rv_enclaves.proofs.SharedInvariantLemmas.{measured_sound, sound_by_size}
pub use Rattle.rv_enclaves.specs.Unlocked.{IsUnlocked}
pub use Rattle.rv_enclaves.specs.declared.slot_info.SlotInfo.{SlotInfo}
pub use Rattle.rv_hart.proofs.Confined.{confined}
pub use Rattle.rv_hart.proofs.StepLaws.{keeps_machine_parts, keeps_mprv_clear, touches_permitted, trap_keeps}
pub use Rattle.rv_hart.specs.Confinement.{EqualOn, IsConfined, SameIn, Stores}
pub use Rattle.rv_hart.specs.Permitted.{MayTouch, MayTouchAll, TouchesPermitted}
pub use Rattle.rv_monitor.specs.EquivExcept.{EquivExcept, HartStatesEquivExcept, runs_on}
pub use Rattle.rv_monitor.specs.HandlerReads.{HandlerReadsLaw, SameRead, SameWhereSame, SameHandling, requested_by, is_call, is_entering}
pub use Rattle.rv_monitor.specs.CallRefusals.{a0, a1, call_refusals}
pub use Rattle.rv_monitor.specs.Changes.{ByMonitor, ChangesAccessible, IsChanged, IsMeasured, IsStoredAccessible}
pub use Rattle.rv_monitor.specs.Noninterference.{BareLaw, HandledAlike, HandlerLaw, StepAlike, bare_machine, continuing_from}
pub use Rattle.rv_monitor.specs.Debugger.{changed, reg_set}
pub use Rattle.rv_monitor.specs.HartLaws.{EntryLaw, IsUndisturbed, LowStepsLaw, RunningLaw, RunsOnNone, SchedChangeLaw, SchedInvariantLaw}
pub use Rattle.rv_monitor.specs.HartLaws.{SchedLaw, SchedIntegrityLaw, sched}
pub use Rattle.rv_monitor.specs.Integrity.{KeepsRunning, IsPreserved, IsUntouched, enters}
pub use Rattle.rv_monitor.proofs.LeftMachine.{saved_after, left_hart, left_shared, line_after, enclave_state_after}
pub use Rattle.rv_monitor.specs.MonitoredMachine.{FullInvariant, HostContextsAreLegal, HasPmpLayout, HostContextIsLegal, Invariant, HartViewInvariant}
pub use Rattle.rv_monitor.specs.MonitoredMachine.{HartInvariant, HostContextInvariant, MonitoredMachine, HartView, timer_line_set}
pub use Rattle.rv_monitor.specs.MonitoredMachine.{count_of, machine_of_parts, hart_state_at_start, hart_state_in, hart_state_of, reprogrammed}
pub use Rattle.rv_monitor.specs.MonitoredMachine.{hart_states_at_start, hart_view, with_hart_state, worlds}
unfoldable pub use Rattle.rv_monitor.specs.MonitoredMachine.{at_start}
pub use Rattle.rv_monitor.specs.Step.{MonitoredStepped, HartViewStepped, returned_to_caller, redirected, handled_cause, handled_exception, not_stepped}
pub use Rattle.rv_monitor.specs.Step.{past_call, refused, returned, returned_to, hart_states_reprogrammed, hart_view_after, stepped_by, stopped_context}
pub use Rattle.rv_monitor.specs.Step.{trapped_mode, trapped_pc, unhandled, with_reprogrammed_hart}
unfoldable pub use Rattle.rv_monitor.specs.Step.{call_handled, called, with_redirected_trap, handled, monitored_step, performed, step_of}
unfoldable pub use Rattle.rv_monitor.specs.Step.{timer_stopped}
pub use Rattle.rv_monitor.specs.SwitchLaws.{StaysOrSwitches, reason, value}
pub use Rattle.rv_monitor.specs.Switches.{Handled, saved_host, saved}
unfoldable pub use Rattle.rv_monitor.specs.Switches.{entered_slot, left}
pub use Rattle.rv_pmp.specs.Entries.{Entries, cfg_of}
pub use Rattle.std.proofs.lemmas.Bool.{and_from, and_parts, both_ways, cases_Bool, cases_eq, cases_lt, cond-false, cond-true, eq-eqb}
pub use Rattle.std.proofs.lemmas.Bool.{eqb-true, false≢true, le-leb, lt-ltb, ne_eqb}
pub use Rattle.std.proofs.lemmas.Bool.Decides.{nat_tests}
pub use Rattle.std.proofs.lemmas.Grind.{get_or-set_at}
pub use Rattle.std.proofs.lemmas.List.{get_or-map, get_or-set_other, get_or-set_same, get_or-take, get_or_default, get_or_past, length-map}
pub use Rattle.std.proofs.lemmas.List.{length-replicate, length-set, map-set, same_lists, set-get_or, set-set, set_past}
pub use Rattle.std.specs.List.{find, list_any}
