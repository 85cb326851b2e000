-- Names that most proofs of this crate use, re-exported from one place. Declares nothing.
pub use Rattle.rv_memory.specs.Blocks.{has, meets, monitor_block}
pub use Rattle.rv_enclaves.specs.ValidBlocks.{is_block_size}
unfoldable pub use Rattle.rv_enclaves.specs.ValidBlocks.{is_valid_block}
pub use Rattle.rv_enclaves.specs.Contexts.{can_go_on, context_at, Contexts, saved_context, with_context}
unfoldable pub use Rattle.rv_enclaves.specs.Contexts.{first_context}
pub use Rattle.rv_enclaves.specs.Create.{new_slot, recorded}
unfoldable pub use Rattle.rv_enclaves.specs.Create.{created, measurement_of, overlaps}
pub use Rattle.rv_enclaves.specs.Destroy.{zeroed}
unfoldable pub use Rattle.rv_enclaves.specs.Destroy.{destroyed}
pub use Rattle.rv_enclaves.specs.Layout.{host_entry, region_entry, window_entry, window_entry_of}
unfoldable pub use Rattle.rv_enclaves.specs.Layout.{entry_at, layout}
pub use Rattle.rv_enclaves.specs.Measure.{measurement_at, with_bytes_at}
unfoldable pub use Rattle.rv_enclaves.specs.Measure.{measured}
pub use Rattle.rv_enclaves.specs.Refusals.{first_refusal}
pub use Rattle.rv_enclaves.specs.SharedEquivExcept.{EqualOutside, is_private, SharedEquivExcept}
pub use Rattle.rv_enclaves.specs.SharedInvariant.{AreApart, is_held, SharedInvariant}
pub use Rattle.rv_enclaves.specs.Table.{IsValidSlot, IsValid, Slots, is_host, is_live, is_running, is_world_of, region, region_of, runs, slot_at, window}
pub use Rattle.rv_enclaves.specs.Table.{running_slot, window_of, with_slot, with_state}
unfoldable pub use Rattle.rv_enclaves.specs.Table.{is_window}
pub use Rattle.rv_memory.specs.declared.block.Block.{Block}
pub use Rattle.rv_enclaves.specs.declared.call.Call.{Call}
pub use Rattle.rv_enclaves.specs.declared.call.Call.TheVariants.{Destroy}
pub use Rattle.rv_enclaves.specs.declared.context.Context.{Context}
pub use Rattle.rv_enclaves.specs.declared.create_args.CreateArgs.{CreateArgs}
pub use Rattle.rv_enclaves.specs.declared.refusal.Refusal.{Refusal}
pub use Rattle.rv_enclaves.specs.declared.shared.Shared.{Shared}
pub use Rattle.rv_enclaves.specs.declared.slot_info.EnclaveState.{EnclaveState}
pub use Rattle.rv_enclaves.specs.declared.slot_info.EnclaveState.TheVariants.{Running}
pub use Rattle.rv_enclaves.specs.declared.slot_info.SlotInfo.{SlotInfo}
pub use Rattle.rv_enclaves.specs.declared.world.World.{World}
pub use Rattle.rv_enclaves.specs.declared.world.World.TheVariants.{Enclave, Host}
pub use Rattle.rv_memory.proofs.MemoryLaws.{length-write}
pub use Rattle.rv_memory.specs.Memory.{is_inside, is_ram_size, ram_base}
unfoldable pub use Rattle.rv_memory.specs.Memory.{write}
unfoldable pub use Rattle.rv_pmp.specs.Covers.{covers}
pub use Rattle.rv_pmp.specs.Entries.{cfg_of, Entries}
pub use Rattle.rv_pmp.specs.Verdicts.{bytes_from, permits}
unfoldable pub use Rattle.rv_pmp.specs.Verdicts.{verdict}
pub use Rattle.rv_pmp.specs.declared.access.Access.{Access}
pub use Rattle.rv_pmp.specs.declared.access.Access.TheVariants.{Fetch, Read, Write}
pub use Rattle.rv_pmp.specs.declared.mode.Mode.{Mode}
pub use Rattle.rv_pmp.specs.declared.mode.Mode.TheVariants.{M, S}
pub use Rattle.rv_word.specs.Cases.{option_case}
pub use Rattle.rv_word.specs.Widths.{bytes_in}
