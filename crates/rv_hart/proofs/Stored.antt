-- Below mode M a step keeps pc a multiple of 4, and stvec and sepc as a write stores them.
use Rattle.std.proofs.Common.{◌≡◌, ℕ, ◌+◌, ◌*◌, ◌/◌, ◌%◌, ◌^◌, ◌==◌, Bool, true, false, Option, Some, None, Result, Ok, Err, refl, sym, ◌∙◌, ap}
use Rattle.std.proofs.Common.{subst, arith}
use Rattle.std.specs.Prelude.{IfNone, IfOk, if◌then◌else◌}
use Rattle.std.proofs.lemmas.Bool.{eqb-true, false≢true}
use Rattle.rv_word.specs.BitFields.{sign_extended}
use Rattle.rv_encoding.specs.declared.instr.Instr.{Instr}
use Rattle.rv_encoding.specs.declared.instr.Instr.TheVariants.{Lui, Auipc, Jal, Jalr, Branch, Load, Store, OpImm, ShiftImm, Op, Fence}
use Rattle.rv_encoding.specs.declared.instr.Instr.TheVariants.{Csr, CsrImm, Ecall, Ebreak, Sret, Mret, Wfi, SfenceVma}
use Rattle.rv_encoding.specs.declared.kind.CsrKind.{CsrKind}
use Rattle.rv_state.specs.Bits.{aligned_to_4}
use Rattle.rv_state.specs.CsrState.{CsrState}
use Rattle.rv_state.specs.Interrupts.{is_machine}
use Rattle.rv_state.specs.Registers.{register, with_register}
use Rattle.rv_state.specs.SContexts.{HasLegalVectors}
use Rattle.rv_state.specs.declared.csr_fault.CsrFault.{CsrFault}
use Rattle.rv_state.proofs.StoredLemmas.{write_stored}
use Rattle.rv_hart.specs.Arithmetic.{is_taken, sum_of}
use Rattle.rv_hart.specs.CsrInstructions.{changed_word, csr_changed, new_csrs, old_word, unless_fault}
use Rattle.rv_hart.specs.Hart.{advanced, branched, jumped, with_result}
use Rattle.rv_hart.specs.HartRecord.{Hart}
use Rattle.rv_hart.specs.Instructions.{address_of, executed, made_even, returned_from_machine, returned_from_supervisor, unless_illegal}
use Rattle.rv_hart.specs.Instructions.{unless_refused, where_allowed}
use Rattle.rv_hart.specs.Machine.{Machine, Stepped}
use Rattle.rv_hart.specs.Step.{step}
use Rattle.rv_hart.specs.StepLaws.{IsLegalHart, KeepsLegal}
use Rattle.rv_hart.specs.declared.trap.Trap.{Trap}
use Rattle.rv_hart.proofs.InstructionCases.{Changes, by_changes}
use Rattle.rv_hart.proofs.StepCases.{by_hart}

-- ---- the registers of mode S

-- each way in which an instruction below mode M changes the hart keeps stvec and sepc legal
changes_stored : (hart : Hart) → is_machine hart.mode ≡ false → HasLegalVectors hart.csrs → Changes hart (λ after. HasLegalVectors after.csrs)
changes_stored hart below_m vectors_legal = record {
  computes = λ regs pc. vectors_legal;
  writes = λ csr word csrs regs pc written. write_stored hart.csrs csr word hart.mode csrs written vectors_legal;
  mret = λ in_machine_mode. absurd (false≢true (sym below_m ∙ in_machine_mode));
  sret = record { stvec = vectors_legal.stvec; sepc = vectors_legal.sepc };
}

-- ---- pc

-- the pc of the hart is a multiple of 4
abbrev Aligned : Hart → Type 0
Aligned hart = aligned_to_4 hart.pc ≡ hart.pc

-- the address of the next instruction is a multiple of 4
next_aligned : (pc : ℕ) → aligned_to_4 pc ≡ pc → aligned_to_4 (sum_of pc 4) ≡ sum_of pc 4
next_aligned pc pc_aligned = omega arith

module _ (hart : Hart) (pc_aligned : aligned_to_4 hart.pc ≡ hart.pc) (below_m : is_machine hart.mode ≡ false)
    (sepc_aligned : aligned_to_4 hart.csrs.sepc ≡ hart.csrs.sepc) where
  -- a jump leaves the pc aligned, because it ends in an exception unless the target is a multiple of 4
  target_aligned : (target : ℕ) (is_multiple : Bool) (after : Hart) (trap : Trap) → (target % 4 == 0) ≡ is_multiple → after.pc ≡ target
      → IfOk (if is_multiple then Ok after else Err trap) Aligned
  target_aligned target true after trap test_is pc_is_target =
      let multiple_of_4 : target % 4 ≡ 0 = eqb-true (target % 4) 0 test_is in
      let target_is_aligned : aligned_to_4 target ≡ target = omega arith in
      ap aligned_to_4 pc_is_target ∙ target_is_aligned ∙ sym pc_is_target
  target_aligned target false after trap test_is pc_is_target = tt

  -- a jump leaves the pc aligned
  jumped_aligned : (rd target : ℕ) → IfOk (jumped hart rd target) Aligned
  jumped_aligned rd target = target_aligned target (target % 4 == 0)
      (record hart { regs = with_register hart.regs rd (sum_of hart.pc 4); pc = target }) _ refl refl

  -- a branch leaves the pc aligned, taken or not
  branched_aligned : (taken : Bool) (target : ℕ) → IfOk (branched hart taken target) Aligned
  branched_aligned true target = target_aligned target (target % 4 == 0) (record hart { pc = target }) _ refl refl
  branched_aligned false target = next_aligned hart.pc pc_aligned

  -- a CSR instruction leaves the pc aligned, whatever the result of its write is
  written_aligned : (rd old word : ℕ) (written : Result CsrState CsrFault)
      → IfOk (unless_illegal word (unless_fault written (λ csrs. Ok (with_result (record hart { csrs = csrs }) rd old)))) Aligned
  written_aligned rd old word (Ok csrs) = next_aligned hart.pc pc_aligned
  written_aligned rd old word (Err fault) = tt

  -- a CSR instruction leaves the pc aligned, whatever the result of its read is
  changed_aligned : (kind : CsrKind) (rd source operand csr word : ℕ)
      → IfOk (unless_illegal word (csr_changed hart kind rd source operand csr)) Aligned
  unfolding csr_changed
  changed_aligned kind rd source operand csr word =
      elim (old_word hart kind rd csr) as (λ read.
      IfOk (unless_illegal word (unless_fault read (λ old. unless_fault (new_csrs hart kind source (changed_word kind old operand) csr)
      (λ csrs. Ok (with_result (record hart { csrs = csrs }) rd old))))) Aligned) [
        | Ok old ↦ written_aligned rd old word (new_csrs hart kind source (changed_word kind old operand) csr)
        | Err fault ↦ tt
      ]

  -- an instruction that needs a permission leaves the pc aligned, if it does with the permission
  allowed_aligned : (allowed : Bool) (word : ℕ) (after : Hart) → Aligned after → IfOk (where_allowed allowed word after) Aligned
  allowed_aligned true word after after_aligned = after_aligned
  allowed_aligned false word after after_aligned = tt

  -- each instruction that ends in no exception leaves the pc aligned
  executed_aligned : (instr : Instr) (word loaded : ℕ) → IfOk (executed hart word loaded instr) Aligned
  unfolding executed
  executed_aligned (Jal rd offset) word loaded = jumped_aligned rd (sum_of hart.pc (sign_extended offset 21))
  executed_aligned (Jalr rd rs1 offset) word loaded = jumped_aligned rd (made_even (address_of hart rs1 offset))
  executed_aligned (Branch kind rs1 rs2 offset) word loaded =
      branched_aligned (is_taken kind (register hart.regs rs1) (register hart.regs rs2)) (sum_of hart.pc (sign_extended offset 13))
  executed_aligned (Csr kind rd rs1 csr) word loaded = changed_aligned kind rd rs1 (register hart.regs rs1) csr word
  executed_aligned (CsrImm kind rd uimm csr) word loaded = changed_aligned kind rd uimm uimm csr word
  executed_aligned Ecall word loaded = tt
  executed_aligned Ebreak word loaded = tt
  executed_aligned Sret word loaded = allowed_aligned (unless_refused hart.mode hart.csrs.mstatus.tsr) word (returned_from_supervisor hart)
      sepc_aligned
  executed_aligned Mret word loaded = rw below_m tt
  executed_aligned Wfi word loaded =
      allowed_aligned (unless_refused hart.mode hart.csrs.mstatus.tw) word (advanced hart) (next_aligned hart.pc pc_aligned)
  executed_aligned (SfenceVma rs1 rs2) word loaded =
      allowed_aligned (unless_refused hart.mode hart.csrs.mstatus.tvm) word (advanced hart) (next_aligned hart.pc pc_aligned)
  executed_aligned _ word loaded = next_aligned hart.pc pc_aligned

-- ---- the step

-- proves that a step below mode M without a trap keeps pc, stvec and sepc legal
pub keeps_stored : (state : Machine) → KeepsLegal state (step state)
keeps_stored state = by_hart state (KeepsLegal state) (λ touched trap below_m state_legal. tt)
    (λ memory touched instr word loaded after executed_is below_m state_legal.
    let after_legal =
    by_changes state.hart (λ hart. HasLegalVectors hart.csrs)
    (changes_stored state.hart below_m state_legal.csrs) instr word loaded after executed_is in
    let after_aligned = subst (λ (finish : Result Hart Trap). IfOk finish Aligned) executed_is
    (executed_aligned state.hart state_legal.pc below_m state_legal.csrs.sepc instr word loaded) in
    record { pc = after_aligned; csrs = record { stvec = after_legal.stvec; sepc = after_legal.sepc } })
