-- This file is the case analysis over the instructions that end in no exception: a property that holds of each way to change the hart holds after
-- every such instruction.
use Rattle.std.proofs.Common.{◌≡◌, ℕ, Bool, true, false, List, Result, Ok, Err, refl, subst}
use Rattle.std.specs.Prelude.{IfOk, ◌==◌, ◌%◌, if◌then◌else◌}
use Rattle.rv_word.specs.BitFields.{sign_extended}
use Rattle.rv_word.specs.declared.width.Width.{Width}
use Rattle.rv_encoding.specs.declared.instr.Instr.{Instr}
use Rattle.rv_encoding.specs.declared.instr.Instr.TheVariants.{Lui, Auipc, Jal, Jalr, Branch, Load, Store, OpImm, ShiftImm, Op, Fence}
use Rattle.rv_encoding.specs.declared.instr.Instr.TheVariants.{Csr, CsrImm, Ecall, Ebreak, Sret, Mret, Wfi, SfenceVma}
use Rattle.rv_encoding.specs.declared.kind.CsrKind.{CsrKind}
use Rattle.rv_state.specs.CsrState.{CsrState}
use Rattle.rv_state.specs.CsrTable.{write_result}
use Rattle.rv_state.specs.Interrupts.{is_machine}
use Rattle.rv_state.specs.Registers.{register, with_register}
use Rattle.rv_state.specs.declared.csr_fault.CsrFault.{CsrFault}
use Rattle.rv_hart.specs.Arithmetic.{sum_of, is_taken}
use Rattle.rv_hart.specs.CsrInstructions.{is_written, changed_word, old_word, new_csrs, unless_fault, csr_changed}
use Rattle.rv_hart.specs.Exceptions.{misaligned}
use Rattle.rv_hart.specs.Hart.{advanced, with_result, jumped, branched}
use Rattle.rv_hart.specs.HartRecord.{Hart}
use Rattle.rv_hart.specs.Instructions.{request, executed, where_allowed, unless_refused, unless_illegal, returned_from_machine}
use Rattle.rv_hart.specs.Instructions.{returned_from_supervisor, address_of, made_even}
use Rattle.rv_hart.specs.declared.request.Request.TheVariants as requests
use Rattle.rv_hart.specs.declared.trap.Trap.{Trap}

-- the claim P holds after each way in which an instruction changes the hart
pub record Changes (hart : Hart) (P : Hart → Type 0) : Type 0 where
  -- the instruction computes or jumps
  pub computes : (regs : List ℕ) (pc : ℕ) → P (record hart { regs = regs; pc = pc })
  -- the instruction writes a control and status register
  pub writes : (csr word : ℕ) (csrs : CsrState) (regs : List ℕ) (pc : ℕ) → write_result hart.csrs csr word hart.mode ≡ Ok csrs
      → P (record hart { regs = regs; csrs = csrs; pc = pc })
  -- the instruction returns from a trap, by mret in mode M or by sret
  pub mret : is_machine hart.mode ≡ true → P (returned_from_machine hart)
  pub sret : P (returned_from_supervisor hart)

-- the claim P holds after an instruction that needs a permission, if it holds when the permission is given
allowed-by : (P : Hart → Type 0) (allowed : Bool) (word : ℕ) (after : Hart) → (allowed ≡ true → P after) → IfOk (where_allowed allowed word after) P
allowed-by P true word after if_allowed = if_allowed refl
allowed-by P false word after if_allowed = tt

-- a claim P that holds after each way in which an instruction changes the hart
module _ (hart : Hart) (P : Hart → Type 0) (changes : Changes hart P) where
  -- the claim P holds of the hart after a jump
  jumped-by : (rd target : ℕ) → IfOk (jumped hart rd target) P
  jumped-by rd target =
      elim (target % 4 == 0) as
      (λ is_aligned. IfOk (if is_aligned then Ok (record hart { regs = with_register hart.regs rd (sum_of hart.pc 4); pc = target })
      else Err (misaligned target)) P)
      [ true ↦ changes.computes _ _ | false ↦ tt ]

  -- the claim P holds of the hart after a branch, taken or not
  branched-by : (taken : Bool) (target : ℕ) → IfOk (branched hart taken target) P
  branched-by false target = changes.computes _ _
  branched-by true target =
      elim (target % 4 == 0) as (λ is_aligned. IfOk (if is_aligned then Ok (record hart { pc = target }) else Err (misaligned target)) P)
      [ true ↦ changes.computes _ _ | false ↦ tt ]

  -- the claim P holds after a CSR instruction with this result of its write
  written-by : (rd old word csr new : ℕ) (written : Result CsrState CsrFault) → write_result hart.csrs csr new hart.mode ≡ written
      → IfOk (unless_illegal word (unless_fault written (λ csrs. Ok (with_result (record hart { csrs = csrs }) rd old)))) P
  written-by rd old word csr new (Ok csrs) write_is = changes.writes csr new csrs _ _ write_is
  written-by rd old word csr new (Err fault) write_is = tt

  -- the claim P holds of the hart after a CSR instruction, whether its read succeeds and whether it writes or not
  changed-by : (kind : CsrKind) (rd source operand csr word : ℕ) → IfOk (unless_illegal word (csr_changed hart kind rd source operand csr)) P
  unfolding csr_changed
  changed-by kind rd source operand csr word =
      elim (old_word hart kind rd csr) as (λ read.
      IfOk (unless_illegal word
      (unless_fault read (λ old. unless_fault (new_csrs hart kind source (changed_word kind old operand) csr)
      (λ csrs. Ok (with_result (record hart { csrs = csrs }) rd old))))) P) [
        | Ok old ↦
            elim (is_written kind source) as (λ does_write.
            IfOk (unless_illegal word
            (unless_fault (if does_write then write_result hart.csrs csr (changed_word kind old operand) hart.mode else Ok hart.csrs)
            (λ csrs. Ok (with_result (record hart { csrs = csrs }) rd old)))) P)
            [ true ↦ written-by rd old word csr (changed_word kind old operand) _ refl | false ↦ changes.computes _ _ ]
        | Err fault ↦ tt
      ]

  -- the claim P holds of the hart after each instruction that ends in no exception
  executed-by : (instr : Instr) (word loaded : ℕ) → IfOk (executed hart word loaded instr) P
  unfolding executed
  executed-by (Lui rd imm) word loaded = changes.computes _ _
  executed-by (Auipc rd imm) word loaded = changes.computes _ _
  executed-by (Jal rd offset) word loaded = jumped-by rd (sum_of hart.pc (sign_extended offset 21))
  executed-by (Jalr rd rs1 offset) word loaded = jumped-by rd (made_even (address_of hart rs1 offset))
  executed-by (Branch kind rs1 rs2 offset) word loaded =
      branched-by (is_taken kind (register hart.regs rs1) (register hart.regs rs2)) (sum_of hart.pc (sign_extended offset 13))
  executed-by (Load kind rd rs1 offset) word loaded = changes.computes _ _
  executed-by (Store kind rs1 rs2 offset) word loaded = changes.computes _ _
  executed-by (OpImm kind rd rs1 imm) word loaded = changes.computes _ _
  executed-by (ShiftImm kind rd rs1 shamt) word loaded = changes.computes _ _
  executed-by (Op kind rd rs1 rs2) word loaded = changes.computes _ _
  executed-by (Fence fm pred succ rd rs1) word loaded = changes.computes _ _
  executed-by (Csr kind rd rs1 csr) word loaded = changed-by kind rd rs1 (register hart.regs rs1) csr word
  executed-by (CsrImm kind rd uimm csr) word loaded = changed-by kind rd uimm uimm csr word
  executed-by Ecall word loaded = tt
  executed-by Ebreak word loaded = tt
  executed-by Sret word loaded =
      allowed-by P (unless_refused hart.mode hart.csrs.mstatus.tsr) word (returned_from_supervisor hart) (λ _. changes.sret)
  executed-by Mret word loaded = allowed-by P (is_machine hart.mode) word (returned_from_machine hart) changes.mret
  executed-by Wfi word loaded = allowed-by P (unless_refused hart.mode hart.csrs.mstatus.tw) word (advanced hart) (λ _. changes.computes _ _)
  executed-by (SfenceVma rs1 rs2) word loaded =
      allowed-by P (unless_refused hart.mode hart.csrs.mstatus.tvm) word (advanced hart) (λ _. changes.computes _ _)

  -- a claim about the hart after an instruction holds if it holds after each way to change the hart
  pub by_changes : (instr : Instr) (word loaded : ℕ) (after : Hart) → executed hart word loaded instr ≡ Ok after → P after
  by_changes instr word loaded after executed_is =
      subst (λ (finish : Result Hart Trap). IfOk finish P) executed_is (executed-by instr word loaded)

-- a store instruction ends in no exception if it does not end in one at its access
pub store_retires : (instr : Instr) (hart : Hart) (address value word : ℕ) (width : Width)
    → request instr hart ≡ requests.Store address width value → executed hart word 0 instr ≡ Ok (advanced hart)
unfolding request executed
store_retires (Store kind rs1 rs2 offset) hart address value word width request_is = refl
store_retires _ hart address value word width request_is = cc
