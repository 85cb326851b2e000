-- The hart at reset, and the basic changes of its state. RISC-V Unprivileged ISA 20191213, sections 2.1 and 2.5; Privileged Architecture
-- 20211203, sections 3.1.6 to 3.1.16 (trap entry), 3.1.10 and 3.1.12 (counters) and 3.4 (reset). The manual does not specify the integer
-- registers at reset; this project sets them to 0.
use Rattle.std.specs.Prelude.{ℕ, ◌%◌, ◌==◌, Bool, Option, replicate, Result, Ok, Err, if◌then◌else◌}
use Rattle.rv_pmp.specs.declared.mode.Mode.{Mode}
use Rattle.rv_pmp.specs.declared.mode.Mode.TheVariants.{M}
use Rattle.rv_state.specs.Counters.{ticked}
use Rattle.rv_state.specs.CsrState.{at_reset as csrs_at_reset}
use Rattle.rv_state.specs.Traps.{after_trap, trap_target}
use Rattle.rv_hart.specs.Arithmetic.{sum_of}
use Rattle.rv_hart.specs.Exceptions.{misaligned}
use Rattle.rv_hart.specs.HartRecord.{Hart}
use Rattle.rv_state.specs.Registers.{with_register}
use Rattle.rv_hart.specs.declared.trap.Trap.{Trap}

-- the hart at reset: every integer register is 0, and pc is the entry address
abbrev pub at_reset : ℕ → Mode → Hart
at_reset entry mode = record { regs = replicate 32 0; csrs = csrs_at_reset; pc = entry; mode = mode }

-- `advanced` is the hart with pc at the next instruction
abbrev pub advanced : Hart → Hart
advanced hart = record hart { pc = sum_of hart.pc 4 }

-- `with_result` is the hart with a register written and pc at the next instruction
abbrev pub with_result : Hart → ℕ → ℕ → Hart
with_result hart rd value = record hart { regs = with_register hart.regs rd value; pc = sum_of hart.pc 4 }

-- the hart after a jump, with the address of the next instruction in rd; a jump to a misaligned target traps and does not write rd
abbrev pub jumped : Hart → ℕ → ℕ → Result Hart Trap
jumped hart rd target =
    if target % 4 == 0 then Ok (record hart { regs = with_register hart.regs rd (sum_of hart.pc 4); pc = target })
    else Err (misaligned target)

-- `branched` is the hart after a branch; a misaligned target traps only if the branch is taken
abbrev pub branched : Hart → Bool → ℕ → Result Hart Trap
branched hart taken target =
    if taken then (if target % 4 == 0 then Ok (record hart { pc = target }) else Err (misaligned target))
    else Ok (advanced hart)

-- `trapped` is the hart after a trap, which goes to mode M and writes no integer register
abbrev pub trapped : Hart → Trap → Hart
trapped hart trap = record hart {
  csrs = after_trap hart.csrs hart.mode hart.pc trap.cause trap.tval;
  pc = trap_target hart.csrs.mtvec trap.cause;
  mode = M;
}

-- `step_counted` is the hart with a step counted, by the value of mcountinhibit before the step and the register that the step wrote
abbrev pub step_counted : Hart → Bool → ℕ → Option ℕ → Hart
step_counted hart retired inhibit written = record hart { csrs = ticked hart.csrs retired inhibit written }
