-- The execution of commands: the state of the bench after each command, and the text of its reply. (This project's own commands.)
use Rattle.std.specs.Prelude.{ℕ, Bool, true, false, List, [], ◌++◌, ◌==◌, nat_lt, Option, Result, Ok, Err, if◌then◌else◌}
use Rattle.rv_memory.specs.Accesses.{verdict_on}
use Rattle.rv_pmp.specs.declared.access.Access.{Access as AccessKind}
use Rattle.rv_script.specs.declared.command.Command.TheVariants.{Break, Watch}
use Rattle.rv_debug.specs.Prelude.{Access, Blank, Clear, Command, CommandFault, Csr, Dis, Enclaves, Entries, Hart, HartRan, M, Mem, Mode}
use Rattle.rv_debug.specs.Prelude.{Pmp, Poke, Reg, Regs, Run, Sched, SetReg, Step, Target, Timer, Unwatch, Width, bytes_in, harts_in}
use Rattle.rv_debug.specs.Prelude.{has_all, number_of_bytes, option_case, parse_of, read, read_result, register, result_case}
use Rattle.rv_debug.specs.Addresses.{with_room_for, without_address}
use Rattle.rv_debug.specs.BenchState.{BenchState}
use Rattle.rv_debug.specs.Effects.{effect, done, entered_by, steps_of}
use Rattle.rv_debug.specs.ReplyText.{ran_text, register_text, registers_text, ok_text, csr_text, memory_text, dis_text, pmp_text, verdict_text}
use Rattle.rv_debug.specs.ReplyText.{denied_outside_text, full_text, command_fault_text, hart_text, no_csr_text, no_hart_text, outside_text}
use Rattle.rv_debug.specs.ScheduledSteps.{AfterSchedule, schedule_start, scheduled_steps}
use Rattle.rv_debug.specs.Steps.{AfterRun}
use Rattle.rv_debug.specs.Targets.{selected_of, hart_of, harts_of, memory_of, world_text, enclaves_text, pc_of, poked, with_selected}

-- ---- breakpoints and watchpoints

-- `set_after` is the set after the insertion of an address, where `set` is None if the old set is full and therefore unchanged
abbrev pub set_after : List ℕ → Option (List ℕ) → List ℕ
set_after old set = option_case set old (λ new. new)

-- the breakpoints after a command; a full set gets no new address
abbrev pub breaks_after : BenchState → Command → List ℕ
breaks_after bench (Break address) = set_after bench.breaks (with_room_for address bench.breaks)
breaks_after bench (Clear address) = without_address address bench.breaks
breaks_after bench _ = bench.breaks

-- the watchpoints after a command; a full set gets no new address
abbrev pub watches_after : BenchState → Command → List ℕ
watches_after bench (Watch address) = set_after bench.watches (with_room_for address bench.watches)
watches_after bench (Unwatch address) = without_address address bench.watches
watches_after bench _ = bench.watches

-- ---- replies

-- the reply to `break` or `watch`: the address is in the set, or the set is full
abbrev pub set_reply : Option (List ℕ) → List ℕ
set_reply set = option_case set full_text (λ new. ok_text)

-- `ran_reply` is the summary of a run: its steps, and the pc, the mode and the world after them
abbrev pub ran_reply : AfterRun Target → List ℕ
ran_reply after = ran_text (pc_of after.state) (hart_of after.state).mode (world_text after.state) after.ran

-- the reply to `poke`: the byte is written, or its address is outside RAM
abbrev pub poke_reply : Target → ℕ → ℕ → List ℕ
poke_reply target address byte = option_case (poked target address byte) outside_text (λ after. ok_text)

-- The reply to `csr`. For mhartid (number F14, which is 3860) it shows the number of the selected hart. For every other CSR it shows the value that
-- mode M reads, or an error if no CSR has the number.
abbrev pub csr_reply : Target → ℕ → List ℕ
csr_reply target number =
    if number == 3860 then csr_text number (selected_of target)
    else result_case (read_result (hart_of target).csrs number M) (csr_text number) (λ _. no_csr_text)

-- the reply to `hart`: the hart is selected, or no hart has the number
abbrev pub hart_reply : Target → ℕ → List ℕ
hart_reply target hart = if nat_lt hart (harts_of target) then ok_text else no_hart_text

-- `hart_summary_text` is the summary of the steps of a hart, and its pc, mode and world after them
abbrev pub hart_summary_text : Target → ℕ → HartRan → List ℕ
hart_summary_text target hart ran =
    let seen = with_selected hart target in hart_text hart (pc_of seen) (hart_of seen).mode (world_text seen) ran

-- `harts_summary_text` has the summary of each hart
abbrev pub harts_summary_text : AfterSchedule → List ℕ
harts_summary_text after =
    hart_summary_text after.state 0 after.did.first
    ++ (if nat_lt 1 (harts_of after.state) then hart_summary_text after.state 1 after.did.second else [])

-- `sched_reply` is the reply to sched: the summary of each hart, or an error if a hart of the schedule does not exist
abbrev pub sched_reply : Target → List ℕ → List ℕ
sched_reply target harts =
    if has_all (harts_of target) harts then harts_summary_text (scheduled_steps harts (schedule_start target)) else no_hart_text

-- the reply to `mem`: the bytes, or an error if some of them are outside RAM
abbrev pub memory_reply : List ℕ → ℕ → ℕ → List ℕ
memory_reply memory address count = option_case (read memory address count) outside_text (memory_text address)

-- the reply to `dis`: the word at the address, whose lowest byte comes first, or an error if some of its bytes are outside RAM
abbrev pub dis_reply : List ℕ → ℕ → List ℕ
dis_reply memory address = option_case (read memory address 4) outside_text (λ bytes. dis_text address (number_of_bytes bytes))

-- the reply to `access`: the verdict of the PMP entries in this mode, or `denied outside` if some byte of the access is outside RAM
abbrev pub access_reply : List ℕ → Entries → Mode → AccessKind → ℕ → Width → List ℕ
access_reply memory entries mode access address width =
    option_case (read memory address (bytes_in width)) denied_outside_text
    (λ _. verdict_text (verdict_on entries mode access address width))

-- `reply_to` is the reply to each command
abbrev pub reply_to : BenchState → Command → List ℕ
reply_to bench Blank = []
reply_to bench (Step count) = ran_reply (steps_of bench.target [] [] count)
reply_to bench (Run count) = ran_reply (steps_of bench.target bench.breaks bench.watches count)
reply_to bench (Break address) = set_reply (with_room_for address bench.breaks)
reply_to bench (Clear address) = ok_text
reply_to bench (Watch address) = set_reply (with_room_for address bench.watches)
reply_to bench (Unwatch address) = ok_text
reply_to bench (Reg number) = register_text number (register (hart_of bench.target).regs number)
reply_to bench Regs = registers_text (hart_of bench.target).regs (pc_of bench.target)
reply_to bench (SetReg number value) = ok_text
reply_to bench (Csr number) = csr_reply bench.target number
reply_to bench (Mem address count) = memory_reply (memory_of bench.target) address count
reply_to bench (Poke address byte) = poke_reply bench.target address byte
reply_to bench (Dis address) = dis_reply (memory_of bench.target) address
reply_to bench Pmp = pmp_text (hart_of bench.target).csrs.pmp
reply_to bench Enclaves = enclaves_text bench.target
reply_to bench (Access mode access address width) =
    access_reply (memory_of bench.target) (hart_of bench.target).csrs.pmp mode access address width
reply_to bench (Timer raised) = ok_text
reply_to bench (Hart hart) = hart_reply bench.target hart
reply_to bench (Sched schedule) = sched_reply bench.target (harts_in schedule)

-- ---- execution

-- `only_shows` states whether a command only shows something
abbrev pub only_shows : Command → Bool
only_shows (Reg number) = true
only_shows Regs = true
only_shows (Csr number) = true
only_shows (Mem address count) = true
only_shows (Dis address) = true
only_shows Pmp = true
only_shows Enclaves = true
only_shows (Access mode access address width) = true
only_shows _ = false

-- the result of a command: the bench after the command, the text of the reply, and the entered slots as bits (bit 3 is set if slot 3 was entered)
pub record Executed : Type 0 where
  pub state : BenchState
  pub reply : List ℕ
  pub entered : ℕ

-- `execute` is the result of one command: the bench with the effect on its target and the new breakpoints and watchpoints, and the reply
unfoldable pub execute : BenchState → Command → Executed
execute bench command = record {
  state = record {
    target = done bench.target (effect bench command);
    breaks = breaks_after bench command;
    watches = watches_after bench command;
  };
  reply = reply_to bench command;
  entered = entered_by bench.target (effect bench command);
}

-- `execute_or_fault` is the result of one line: a line with an error has the error as its reply, and does not change the bench
abbrev pub execute_or_fault : BenchState → Result Command CommandFault → Executed
execute_or_fault bench (Ok command) = execute bench command
execute_or_fault bench (Err fault) = record { state = bench; reply = command_fault_text fault; entered = 0 }

-- `execute_line` is the bench after one line, and the reply to the line
unfoldable pub execute_line : BenchState → List ℕ → Executed
execute_line bench line = execute_or_fault bench (parse_of line)
