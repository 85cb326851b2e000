-- A step that traps by an interrupt takes the pending one: no instruction ends in an interrupt.
use Rattle.std.proofs.Common.{◌≡◌, ℕ, Bool, true, false, List, Option, Some, Result, Ok, Err, refl, sym, ◌∙◌, ap}
use Rattle.std.specs.Prelude.{◌%◌, ◌==◌, if◌then◌else◌}
use Rattle.rv_word.specs.BitFields.{sign_extended}
use Rattle.rv_encoding.specs.declared.instr.Instr.{Instr}
use Rattle.rv_encoding.specs.declared.instr.Instr.TheVariants.{Lui, Auipc, Jal, Jalr, Branch}
use Rattle.rv_encoding.specs.declared.instr.Instr.TheVariants.{Csr, CsrImm, Sret, Mret, Wfi, SfenceVma}
use Rattle.rv_memory.specs.declared.touched.Touched.{Touched}
use Rattle.rv_state.specs.Interrupts.{is_machine}
use Rattle.rv_state.specs.Registers.{register, with_register}
use Rattle.rv_state.specs.declared.cause.Cause.{Cause}
use Rattle.rv_state.specs.declared.cause.Cause.TheVariants as causes
use Rattle.rv_state.specs.declared.cause.Interrupt.{Interrupt}
use Rattle.rv_state.specs.declared.csr_fault.CsrFault.{CsrFault}
use Rattle.rv_hart.specs.Arithmetic.{is_taken, sum_of}
use Rattle.rv_hart.specs.CsrInstructions.{csr_changed, written_csr}
use Rattle.rv_hart.specs.Exceptions.{illegal, misaligned}
use Rattle.rv_hart.specs.Hart.{advanced, branched, jumped}
use Rattle.rv_hart.specs.HartRecord.{Hart}
use Rattle.rv_hart.specs.Instructions.{address_of, executed, made_even, returned_from_machine, returned_from_supervisor, unless_illegal}
use Rattle.rv_hart.specs.Instructions.{unless_refused}
use Rattle.rv_hart.specs.Machine.{Machine, over}
use Rattle.rv_hart.specs.Step.{retired_or_trapped, step}
use Rattle.rv_hart.specs.StepLaws.{TakesPending}
use Rattle.rv_hart.specs.declared.trap.Trap.{Trap}
use Rattle.rv_hart.proofs.StepCases.{step_ways}

-- whether a cause is an exception, and not an interrupt
abbrev is_exception : Cause → Bool
is_exception (causes.Exception exception) = true
is_exception (causes.Interrupt interrupt) = false

-- whether the result of an instruction is a hart, or a trap by an exception
abbrev is_uninterrupted : Result Hart Trap → Bool
is_uninterrupted (Ok hart) = true
is_uninterrupted (Err trap) = is_exception trap.cause

-- a result that a test selects is no interrupt, if the trap that it may select is an exception
selected-uninterrupted : (holds : Bool) (after : Hart) (trap : Trap) → is_exception trap.cause ≡ true
    → is_uninterrupted (if holds then Ok after else Err trap) ≡ true
selected-uninterrupted true after trap trap_is_exception = refl
selected-uninterrupted false after trap trap_is_exception = trap_is_exception

-- a branch ends in no interrupt
branch-uninterrupted : (hart : Hart) (taken : Bool) (target : ℕ) → is_uninterrupted (branched hart taken target) ≡ true
branch-uninterrupted hart false target = refl
branch-uninterrupted hart true target = selected-uninterrupted (target % 4 == 0) (record hart { pc = target }) (misaligned target) refl

-- a CSR instruction ends in no interrupt
csr-uninterrupted : (word : ℕ) (change : Result Hart CsrFault) → is_uninterrupted (unless_illegal word change) ≡ true
csr-uninterrupted word (Ok hart) = refl
csr-uninterrupted word (Err fault) = refl

module _ (hart : Hart) (word loaded : ℕ) where
  -- a jump ends in no interrupt
  jump-uninterrupted : (rd target : ℕ) → is_uninterrupted (jumped hart rd target) ≡ true
  jump-uninterrupted rd target =
      selected-uninterrupted (target % 4 == 0) (record hart { regs = with_register hart.regs rd (sum_of hart.pc 4); pc = target })
      (misaligned target) refl

  -- no instruction ends in an interrupt: each trap of an instruction is an exception
  no-interrupt : (instr : Instr) → is_uninterrupted (executed hart word loaded instr) ≡ true
  unfolding executed
  no-interrupt (Lui rd imm) = refl
  no-interrupt (Auipc rd imm) = refl
  no-interrupt (Jal rd offset) = jump-uninterrupted rd (sum_of hart.pc (sign_extended offset 21))
  no-interrupt (Jalr rd rs1 offset) = jump-uninterrupted rd (made_even (address_of hart rs1 offset))
  no-interrupt (Branch kind rs1 rs2 offset) =
      branch-uninterrupted hart (is_taken kind (register hart.regs rs1) (register hart.regs rs2)) (sum_of hart.pc (sign_extended offset 13))
  no-interrupt (Csr kind rd rs1 csr) = csr-uninterrupted word (csr_changed hart kind rd rs1 (register hart.regs rs1) csr)
  no-interrupt (CsrImm kind rd uimm csr) = csr-uninterrupted word (csr_changed hart kind rd uimm uimm csr)
  no-interrupt Sret = selected-uninterrupted (unless_refused hart.mode hart.csrs.mstatus.tsr) (returned_from_supervisor hart) (illegal word) refl
  no-interrupt Mret = selected-uninterrupted (is_machine hart.mode) (returned_from_machine hart) (illegal word) refl
  no-interrupt Wfi = selected-uninterrupted (unless_refused hart.mode hart.csrs.mstatus.tw) (advanced hart) (illegal word) refl
  no-interrupt (SfenceVma rs1 rs2) = selected-uninterrupted (unless_refused hart.mode hart.csrs.mstatus.tvm) (advanced hart) (illegal word) refl
  no-interrupt _ = refl

-- no trap is both an exception and an interrupt
not-both : (P : Type 0) (trap : Trap) (interrupt : Interrupt) → is_exception trap.cause ≡ true → trap.cause ≡ causes.Interrupt interrupt → P
not-both P trap interrupt trap_is_exception cause_is = let false_is_true : false ≡ true = sym (ap is_exception cause_is) ∙ trap_is_exception in cc

-- a trap that equals an exception is no interrupt
not-by-interrupt : {P : Type 0} (taken trap : Trap) (interrupt : Interrupt) → is_exception taken.cause ≡ true → Some taken ≡ Some trap
    → trap.cause ≡ causes.Interrupt interrupt → P
not-by-interrupt {P} taken trap interrupt trap_is_exception same_trap cause_is =
    let is_trap : taken ≡ trap = cc in not-both P trap interrupt (ap (λ (trap : Trap). is_exception trap.cause) (sym is_trap)
    ∙ trap_is_exception) cause_is

-- the end of an instruction takes no interrupt, if its result is no trap by an interrupt
ends-uninterrupted : (state : Machine) (memory : List ℕ) (touched : Touched) (written : Option ℕ) (finish : Result Hart Trap)
    → is_uninterrupted finish ≡ true → TakesPending state (over memory (retired_or_trapped state.hart touched written finish))
unfolding retired_or_trapped
ends-uninterrupted state memory touched written (Ok after) uninterrupted trap interrupt same_trap cause_is = cc
ends-uninterrupted state memory touched written (Err taken) uninterrupted trap interrupt same_trap cause_is =
    not-by-interrupt taken trap interrupt uninterrupted same_trap cause_is

-- the interrupt that a trap takes is the pending one: the trap of the step has the pending interrupt as its cause
taken-is-pending : (found : Option Interrupt) (pending_interrupt interrupt : Interrupt) (trap : Trap) (taken : Trap)
    → taken.cause ≡ causes.Interrupt pending_interrupt → Some taken ≡ Some trap
    → trap.cause ≡ causes.Interrupt interrupt → found ≡ Some pending_interrupt → found ≡ Some interrupt
taken-is-pending found pending_interrupt interrupt trap taken cause_is same_trap by_interrupt is_pending =
    let is_trap : taken ≡ trap = cc in
    let same_cause : causes.Interrupt pending_interrupt ≡ causes.Interrupt interrupt = sym cause_is ∙ ap (λ (trap : Trap). trap.cause) is_trap
    ∙ by_interrupt in
    let same_interrupt : pending_interrupt ≡ interrupt = cc in
    is_pending ∙ ap (λ (interrupt : Interrupt). Some interrupt) same_interrupt

-- proves that a step that traps by an interrupt takes the pending one
pub takes_pending : (state : Machine) → TakesPending state (step state)
takes_pending state = step_ways state (TakesPending state) (record {
  interrupt = λ pending_interrupt is_pending trap interrupt same_trap by_interrupt.
      taken-is-pending _ pending_interrupt interrupt trap _ refl same_trap by_interrupt is_pending;
  fetch_refused = λ fault fetch_is trap interrupt same_trap by_interrupt. not-by-interrupt _ trap interrupt refl same_trap by_interrupt;
  illegal = λ word decode_is trap interrupt same_trap by_interrupt. not-by-interrupt _ trap interrupt refl same_trap by_interrupt;
  no_access = λ word instr requested. ends-uninterrupted state state.memory _ (written_csr instr) (executed state.hart word 0 instr)
      (no-interrupt state.hart word 0 instr);
  load = λ word instr address width number requested access_is.
      ends-uninterrupted state state.memory _ (written_csr instr) (executed state.hart word number instr) (no-interrupt state.hart word number instr);
  load_refused = λ word instr address width fault requested access_is trap interrupt same_trap by_interrupt. not-by-interrupt _ trap interrupt refl
      same_trap by_interrupt;
  store = λ word instr address width value memory requested access_is.
      ends-uninterrupted state memory _ (written_csr instr) (executed state.hart word 0 instr) (no-interrupt state.hart word 0 instr);
  store_refused = λ word instr address width value fault requested access_is trap interrupt same_trap by_interrupt. not-by-interrupt _ trap
      interrupt refl same_trap by_interrupt;
})
