-- The pending interrupts, and the one that is taken (RISC-V Privileged Architecture 20211203, sections 3.1.6.1 and 3.1.9). No interrupt is
-- delegated.
use Rattle.std.specs.Prelude.{ℕ, ◌+◌, Bool, true, false, ◌&&◌, not, if◌then◌else◌, List, [], ◌∷◌, Option, None, find}
use Rattle.rv_pmp.specs.declared.mode.Mode.{Mode}
use Rattle.rv_pmp.specs.declared.mode.Mode.TheVariants.{M}
use Rattle.rv_word.specs.BitFields.{is_set, flag}
use Rattle.rv_state.specs.Bits.{kept_bits}
use Rattle.rv_state.specs.Causes.{interrupt_number}
use Rattle.rv_state.specs.CsrState.{CsrState}
use Rattle.rv_state.specs.declared.cause.Interrupt.{Interrupt}
use Rattle.rv_state.specs.declared.cause.Interrupt.TheVariants.{SupervisorSoftware, MachineSoftware, SupervisorTimer, MachineTimer}
use Rattle.rv_state.specs.declared.cause.Interrupt.TheVariants.{SupervisorExternal, MachineExternal}

-- the bits of mip that software writes: SSIP, STIP and SEIP
abbrev pub software_pending_of : ℕ → ℕ
software_pending_of word = kept_bits (1 ∷ 5 ∷ 9 ∷ []) word

-- the word that mip reads: the bits that software wrote, and MTIP, which is the timer line
abbrev pub mip_word : CsrState → ℕ
mip_word csrs = software_pending_of csrs.software_pending + flag 7 csrs.timer

-- the order in which pending interrupts are taken
abbrev pub interrupt_order : List Interrupt
interrupt_order =
    MachineExternal ∷ MachineSoftware ∷ MachineTimer ∷ SupervisorExternal ∷ SupervisorSoftware ∷ SupervisorTimer ∷ []

-- the first interrupt in this order whose bit is set in both mip and mie
abbrev pub first_interrupt : ℕ → ℕ → Option Interrupt
first_interrupt mip mie =
    find (λ interrupt. is_set mip (interrupt_number interrupt) && is_set mie (interrupt_number interrupt)) interrupt_order

-- whether the mode is M
abbrev pub is_machine : Mode → Bool
is_machine M = true
is_machine _ = false

-- the interrupt that is taken before an instruction in this mode; in mode M there is none unless MIE is set
abbrev pub pending : CsrState → Mode → Option Interrupt
pending csrs mode = if is_machine mode && not csrs.mstatus.mie then None else first_interrupt (mip_word csrs) csrs.mie
