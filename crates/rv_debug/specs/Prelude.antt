-- Names of other crates and of Rust types that definitions and proofs here use, re-exported from one place. Declares nothing.
pub use Rattle.rv_debug.specs.declared.both.BothWhy.{BothWhy}
pub use Rattle.rv_debug.specs.declared.both.BothWhy.TheVariants.{All, Entered, NotBlind}
pub use Rattle.rv_debug.specs.declared.scheduled.HartRan.{HartRan}
pub use Rattle.rv_debug.specs.declared.scheduled.Scheduled.{Scheduled}
pub use Rattle.rv_debug.specs.declared.steps.Ran.{Ran}
pub use Rattle.rv_debug.specs.declared.steps.Stop.{Stop}
pub use Rattle.rv_debug.specs.declared.steps.Stop.TheVariants.{Break, Done, Watch}
pub use Rattle.rv_debug.specs.declared.target.Target.{Target}
pub use Rattle.rv_debug.specs.declared.target.Target.TheVariants.{Bare, Monitored}
pub use Rattle.rv_memory.specs.Blocks.{has, meets, no_block}
pub use Rattle.rv_enclaves.specs.ValidBlocks.{is_block_size}
unfoldable pub use Rattle.rv_enclaves.specs.ValidBlocks.{is_valid_block}
pub use Rattle.rv_enclaves.specs.Table.{IsValidSlot, Slots, is_host, is_live, is_world_of, region, slot_at}
pub use Rattle.rv_memory.specs.declared.block.Block.{Block}
pub use Rattle.rv_hart.specs.Machine.{Machine}
pub use Rattle.rv_fast_path.specs.declared.limits.Limits.{Limits}
pub use Rattle.rv_hart.specs.declared.trap.Trap.{Trap}
pub use Rattle.rv_memory.specs.Memory.{byte_at, is_inside, number_of_bytes, ram_base, write_bytes}
unfoldable pub use Rattle.rv_memory.specs.Memory.{read, write}
pub use Rattle.rv_monitor.specs.EquivExcept.{EquivExcept, runs_on}
pub use Rattle.rv_monitor.specs.Debugger.{changed, reg_set, with_memory, with_reg, with_timer}
pub use Rattle.rv_monitor.specs.HartLaws.{IsChangedInOrder, IsUndisturbed, RunsOnNone, sched}
pub use Rattle.rv_monitor.specs.Integrity.{IsPreserved, enters}
pub use Rattle.rv_monitor.specs.MonitoredMachine.{HostContextsAreLegal, HostContextIsLegal, Invariant, MonitoredMachine, HartView, count_of}
pub use Rattle.rv_monitor.specs.MonitoredMachine.{hart_state_at_start, hart_state_of, reprogrammed, timer_line_set}
pub use Rattle.rv_monitor.specs.MonitoredMachine.{hart_view}
unfoldable pub use Rattle.rv_monitor.specs.Step.{monitored_step, step_of}
pub use Rattle.rv_monitor.specs.declared.hart_state.HartState.{HartState}
pub use Rattle.rv_pmp.specs.Entries.{Entries, addr_of, cfg_of}
pub use Rattle.rv_pmp.specs.declared.mode.Mode.{Mode}
pub use Rattle.rv_pmp.specs.declared.mode.Mode.TheVariants.{M, S, U}
pub use Rattle.rv_script.specs.Command.{bytes_named}
unfoldable pub use Rattle.rv_script.specs.Command.{parse_of}
pub use Rattle.rv_script.specs.Schedules.{harts_in}
unfoldable pub use Rattle.rv_script.specs.Schedules.{hart_of_digit, has_all}
pub use Rattle.rv_script.specs.declared.command.Command.{Command}
pub use Rattle.rv_script.specs.declared.command.Command.TheVariants.{Access, Blank, Clear, Csr, Dis, Enclaves, Hart, Mem, Pmp, Poke, Reg}
pub use Rattle.rv_script.specs.declared.command.Command.TheVariants.{Regs, Run, Sched, SetReg, Step, Timer, Unwatch}
pub use Rattle.rv_script.specs.declared.command.CommandFault.{CommandFault}
unfoldable pub use Rattle.rv_state.specs.CsrTable.{csr_listing, csr_numbered, csr_of, read_result}
pub use Rattle.rv_state.specs.Registers.{register, with_register}
pub use Rattle.rv_text.specs.Digits.{hex2, hex3, hex8}
unfoldable pub use Rattle.rv_text.specs.Digits.{hex_digits}
pub use Rattle.rv_word.specs.Cases.{option_case, result_case}
pub use Rattle.rv_word.specs.Widths.{bytes_in}
pub use Rattle.rv_word.specs.declared.width.Width.{Width}
