-- Names of other crates and of Rust types that definitions and proofs here use, re-exported from one place. Declares nothing.
pub use Rattle.rv_memory.specs.Blocks.{has}
pub use Rattle.rv_enclaves.specs.Calls.{requested_call, call_key, call_number, calls, is_offered, status_of}
unfoldable pub use Rattle.rv_enclaves.specs.Calls.{call_requested}
pub use Rattle.rv_enclaves.specs.Contexts.{Contexts, IsLegal, can_go_on, context_at, exited_context, saved_context, with_return_values}
pub use Rattle.rv_enclaves.specs.Contexts.{with_context}
unfoldable pub use Rattle.rv_enclaves.specs.Contexts.{first_context}
pub use Rattle.rv_enclaves.specs.Create.{bytes_of_block, new_slot, create_args_of, recorded}
unfoldable pub use Rattle.rv_enclaves.specs.Create.{create_refusals, created, measurement_of}
pub use Rattle.rv_enclaves.specs.Destroy.{zeroed}
unfoldable pub use Rattle.rv_enclaves.specs.Destroy.{destroyed}
pub use Rattle.rv_enclaves.specs.Layout.{mie_of}
unfoldable pub use Rattle.rv_enclaves.specs.Layout.{entry_at, layout}
pub use Rattle.rv_enclaves.specs.Measure.{may_store, measured_slot, measurement_at, with_bytes_at}
unfoldable pub use Rattle.rv_enclaves.specs.Measure.{may_store_all, measure_refusals, measured}
unfoldable pub use Rattle.rv_enclaves.specs.AccessibleMemory.{is_accessible}
pub use Rattle.rv_enclaves.specs.Refusals.{first_refusal}
unfoldable pub use Rattle.rv_enclaves.specs.Refusals.{state_refusals}
pub use Rattle.rv_enclaves.specs.SharedEquivExcept.{EqualOutside, SharedEquivExcept, is_private}
pub use Rattle.rv_enclaves.specs.SharedInvariant.{AreApart, SharedInvariant, shared_at_start}
pub use Rattle.rv_enclaves.specs.Table.{IsValidSlot, IsValid, Slots, is_host, is_live, is_running, is_world_of, no_slots, region}
pub use Rattle.rv_enclaves.specs.Table.{region_of, running_slot, slot_at, with_slot, with_state}
pub use Rattle.rv_enclaves.specs.declared.call.Call.{Call}
pub use Rattle.rv_enclaves.specs.declared.call.Call.TheVariants.{Create, Destroy, Exit, Measure, Resume, Run, Stop}
pub use Rattle.rv_enclaves.specs.declared.context.Context.{Context}
pub use Rattle.rv_enclaves.specs.declared.refusal.Refusal.{Refusal}
pub use Rattle.rv_enclaves.specs.declared.refusal.Refusal.TheVariants.{NotSupported}
pub use Rattle.rv_enclaves.specs.declared.shared.Shared.{Shared}
pub use Rattle.rv_enclaves.specs.declared.slot_info.EnclaveState.{EnclaveState}
pub use Rattle.rv_enclaves.specs.declared.slot_info.EnclaveState.TheVariants.{Exited, Running, Stopped}
pub use Rattle.rv_enclaves.specs.declared.world.World.{World}
pub use Rattle.rv_enclaves.specs.declared.world.World.TheVariants.{Enclave, Host}
pub use Rattle.rv_hart.specs.Arithmetic.{sum_of}
pub use Rattle.rv_hart.specs.HartRecord.{Hart}
pub use Rattle.rv_hart.specs.Machine.{Machine, Stepped}
pub use Rattle.rv_hart.specs.Step.{data_mode, span}
unfoldable pub use Rattle.rv_hart.specs.Step.{retired_or_trapped, step}
pub use Rattle.rv_fast_path.specs.declared.limits.Limits.{Limits}
pub use Rattle.rv_hart.specs.declared.trap.StepOutcome.{StepOutcome}
pub use Rattle.rv_hart.specs.declared.trap.Trap.{Trap}
pub use Rattle.rv_memory.specs.Memory.{byte_at, is_inside, is_ram_size, ram_base}
unfoldable pub use Rattle.rv_memory.specs.Memory.{write}
pub use Rattle.rv_memory.specs.declared.touched.Span.{Span}
pub use Rattle.rv_monitor.specs.declared.outcome.Outcome.{Outcome}
pub use Rattle.rv_monitor.specs.declared.hart_state.HartState.{HartState}
pub use Rattle.rv_pmp.specs.Verdicts.{bytes_from, permits}
unfoldable pub use Rattle.rv_pmp.specs.Verdicts.{verdict}
pub use Rattle.rv_pmp.specs.declared.access.Access.{Access}
pub use Rattle.rv_pmp.specs.declared.access.Access.TheVariants.{Fetch, Read, Write}
pub use Rattle.rv_pmp.specs.declared.mode.Mode.{Mode}
pub use Rattle.rv_pmp.specs.declared.mode.Mode.TheVariants.{M, S, U}
pub use Rattle.rv_state.specs.Bits.{aligned_to_4}
pub use Rattle.rv_state.specs.CsrState.{CsrState}
pub use Rattle.rv_state.specs.Interrupts.{is_machine}
pub use Rattle.rv_state.specs.Registers.{register, with_register}
pub use Rattle.rv_state.specs.SContexts.{KeepsOwn, s_context, with_s_context}
pub use Rattle.rv_state.specs.declared.cause.Cause.{Cause}
pub use Rattle.rv_state.specs.declared.cause.Exception.{Exception}
pub use Rattle.rv_state.specs.declared.cause.Exception.TheVariants.{EnvironmentCallFromS, InstructionAccessFault}
pub use Rattle.rv_word.specs.BitFields.{is_set}
pub use Rattle.rv_word.specs.Cases.{option_case, result_case}
pub use Rattle.rv_word.specs.Widths.{bytes_in}
pub use Rattle.rv_word.specs.declared.width.Width.TheVariants.{Byte, Word}
