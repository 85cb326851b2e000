-- Properties of every step. RISC-V Privileged Architecture 20211203, sections 3.1.6.3 (MPRV), 3.1.6 to 3.1.16 (trap entry) and 3.1.9
-- (interrupts); Unprivileged ISA 20191213, section 1.6 (traps are precise).
use Rattle.std.specs.Prelude.{◌≡◌, ◌%◌, ℕ, List, length, false, Option, Some, None, IfSome, IfNone}
use Rattle.rv_word.specs.Widths.{bytes_in}
use Rattle.rv_memory.specs.Changes.{ChangesOnly}
use Rattle.rv_memory.specs.declared.touched.Span.{Span}
use Rattle.rv_state.specs.Bits.{aligned_to_4}
use Rattle.rv_state.specs.MachineParts.{machine_parts}
use Rattle.rv_state.specs.SContexts.{HasLegalVectors}
use Rattle.rv_state.specs.Interrupts.{is_machine, pending}
use Rattle.rv_state.specs.declared.cause.Cause.TheVariants as causes
use Rattle.rv_state.specs.declared.cause.Interrupt.{Interrupt}
use Rattle.rv_state.specs.Registers.{register}
use Rattle.rv_hart.specs.Confinement.{IsConfined}
use Rattle.rv_hart.specs.Hart.{trapped, step_counted}
use Rattle.rv_hart.specs.GuestView.{DependsBelowM}
use Rattle.rv_hart.specs.HartRecord.{Hart}
use Rattle.rv_hart.specs.declared.trap.Trap.{Trap}
use Rattle.rv_hart.specs.Permitted.{TouchesPermitted}
use Rattle.rv_hart.specs.Machine.{Machine, Stepped}

-- If a step ends in a trap, the hart changes only by the trap and the counting of the step, and memory does not change. No integer register
-- changes, so no instruction both writes a register and traps.
abbrev pub TrapKeeps : Machine → Stepped → Type 0
TrapKeeps before after =
    IfSome after.outcome.trap (λ trap.
    (after.state.hart ≡ step_counted (trapped before.hart trap) false before.hart.csrs.mcountinhibit None)
    × (after.state.memory ≡ before.memory))

-- MPRV is 0 if the mode is below M
abbrev pub MprvIsClear : Hart → Type 0
MprvIsClear hart = is_machine hart.mode ≡ false → hart.csrs.mstatus.mprv ≡ false

-- a step keeps MPRV 0 below mode M
abbrev pub KeepsMprvClear : Machine → Stepped → Type 0
KeepsMprvClear before after = MprvIsClear before.hart → MprvIsClear after.state.hart

-- the machine's parts of the registers are unchanged, and the mode is below M
abbrev pub StaysBelow : Hart → Hart → Type 0
StaysBelow before after = (machine_parts after.csrs ≡ machine_parts before.csrs) × (is_machine after.mode ≡ false)

-- If the mode is below M and MPRV is 0, a step that ends in no trap neither changes the machine's parts nor enters mode M.
abbrev pub KeepsMachineParts : Machine → Stepped → Type 0
KeepsMachineParts before after =
    is_machine before.hart.mode ≡ false → before.hart.csrs.mstatus.mprv ≡ false
    → IfNone after.outcome.trap (StaysBelow before.hart after.state.hart)

-- a memory changes only in the bytes of a span, and not at all if there is none
abbrev pub ChangesIn : List ℕ → List ℕ → Option Span → Type 0
ChangesIn old new None = new ≡ old
ChangesIn old new (Some span) = ChangesOnly old new span.addr (bytes_in span.len)

-- The memory keeps its size, and changes only in the bytes that the step stored.
abbrev pub ChangesStored : Machine → Stepped → Type 0
ChangesStored before after =
    (length after.state.memory ≡ length before.memory) × ChangesIn before.memory after.state.memory after.outcome.touched.stored

-- A step that traps by an interrupt takes the interrupt that was pending (section 3.1.9). No instruction ends in an interrupt.
abbrev pub TakesPending : Machine → Stepped → Type 0
TakesPending before after =
    (trap : Trap) (interrupt : Interrupt) → after.outcome.trap ≡ Some trap → trap.cause ≡ causes.Interrupt interrupt
    → pending before.hart.csrs before.hart.mode ≡ Some interrupt

-- pc is a multiple of 4, and stvec and sepc have legal values
pub record IsLegalHart (hart : Hart) : Type 0 where
  -- the pc is a multiple of 4
  pub pc : aligned_to_4 hart.pc ≡ hart.pc
  -- stvec and sepc have legal values
  pub csrs : HasLegalVectors hart.csrs

-- below mode M, a step that ends in no trap keeps pc a multiple of 4, and stvec and sepc legal
abbrev pub KeepsLegal : Machine → Stepped → Type 0
KeepsLegal before after =
    is_machine before.hart.mode ≡ false → IsLegalHart before.hart → IfNone after.outcome.trap (IsLegalHart after.state.hart)

-- a step has all properties of this file and of the other laws, for the state before it and its result
pub record ObeysHartLaws (before : Machine) (after : Stepped) : Type 0 where
  -- x0 reads 0
  pub x0 : register after.state.hart.regs 0 ≡ 0
  -- the pc is a multiple of 4
  pub aligned : after.state.hart.pc % 4 ≡ 0
  -- a trap changes only the state that every trap changes
  pub trap_keeps : TrapKeeps before after
  -- MPRV stays 0 below mode M
  pub mprv : KeepsMprvClear before after
  -- below mode M, a step without a trap keeps the parts of mode M
  pub machine_parts : KeepsMachineParts before after
  -- memory changes only in the bytes that the step stored
  pub memory : ChangesStored before after
  -- PMP permits each access of the step
  pub permitted : TouchesPermitted before after
  -- the step depends only on the bytes that it fetched and loaded
  pub confined : IsConfined before after
  -- an interrupt that the step takes was pending
  pub interrupt : TakesPending before after
  -- below mode M, the step depends on no register of mode M
  pub below_m : DependsBelowM before after
