-- The meaning of each instruction: the access that it requests, and the hart after it is executed with that access made. RISC-V Unprivileged ISA
-- 20191213, chapters 2, 7 and 9; Privileged Architecture 20211203, sections 3.1.6.5 (TVM, TW, TSR), 3.3.2 (mret, sret), 3.3.3 (wfi) and 4.2.1
-- (sfence.vma).
use Rattle.std.specs.Prelude.{ℕ, ◌*◌, ◌/◌, Bool, true, false, not, Result, Ok, Err, if◌then◌else◌}
use Rattle.rv_word.specs.Cases.{result_case}
use Rattle.rv_word.specs.BitFields.{sign_extended}
use Rattle.rv_encoding.specs.declared.instr.Instr.{Instr}
use Rattle.rv_encoding.specs.declared.instr.Instr.TheVariants.{Lui, Auipc, Jal, Jalr, Branch, Load, Store, OpImm, ShiftImm, Op, Fence}
use Rattle.rv_encoding.specs.declared.instr.Instr.TheVariants.{Csr, CsrImm, Ecall, Ebreak, Sret, Mret, Wfi, SfenceVma}
use Rattle.rv_hart.specs.Arithmetic.{sum_of, op_value, op_imm_value, shift_value, is_taken, load_width, load_value, store_width}
use Rattle.rv_pmp.specs.declared.mode.Mode.{Mode}
use Rattle.rv_pmp.specs.declared.mode.Mode.TheVariants.{U, S, M}
use Rattle.rv_state.specs.Interrupts.{is_machine}
use Rattle.rv_state.specs.Traps.{after_mret, after_sret, mode_of_spp}
use Rattle.rv_state.specs.declared.csr_fault.CsrFault.{CsrFault}
use Rattle.rv_hart.specs.CsrInstructions.{csr_changed}
use Rattle.rv_hart.specs.Exceptions.{illegal, breakpoint, environment_call}
use Rattle.rv_hart.specs.Hart.{advanced, with_result, jumped, branched}
use Rattle.rv_hart.specs.HartRecord.{Hart}
use Rattle.rv_state.specs.Registers.{register}
use Rattle.rv_hart.specs.declared.request.Request.{Request}
use Rattle.rv_hart.specs.declared.request.Request.TheVariants as requests
use Rattle.rv_hart.specs.declared.trap.Trap.{Trap}

-- `address_of` is the sum of a register and a sign-extended offset of 12 bits
abbrev pub address_of : Hart → ℕ → ℕ → ℕ
address_of hart rs1 offset = sum_of (register hart.regs rs1) (sign_extended offset 12)

-- `made_even` is a number with bit 0 cleared
abbrev pub made_even : ℕ → ℕ
made_even number = number / 2 * 2

-- ---- permission to execute an instruction

-- `unless_refused` states whether a mode may execute an instruction: always in mode M, in mode S unless a bit of mstatus forbids it, never in mode U
abbrev pub unless_refused : Mode → Bool → Bool
unless_refused M refused = true
unless_refused S refused = not refused
unless_refused U refused = false

-- `where_allowed` is the hart after an instruction if it is allowed, otherwise the illegal-instruction exception
abbrev pub where_allowed : Bool → ℕ → Hart → Result Hart Trap
where_allowed allowed word after = if allowed then Ok after else Err (illegal word)

-- the hart after a change of a control and status register; a refused access is an illegal instruction
abbrev pub unless_illegal : ℕ → Result Hart CsrFault → Result Hart Trap
unless_illegal word change = result_case change Ok (λ _. Err (illegal word))

-- ---- the returns from traps

-- `returned_from_machine` is the hart after mret: mstatus by the rule of mret, pc from mepc, and the mode from MPP
abbrev pub returned_from_machine : Hart → Hart
returned_from_machine hart =
    record hart { csrs = after_mret hart.csrs; pc = hart.csrs.mepc; mode = hart.csrs.mstatus.mpp }

-- `returned_from_supervisor` is the hart after sret: mstatus by the rule of sret, pc from sepc, and the mode from SPP
abbrev pub returned_from_supervisor : Hart → Hart
returned_from_supervisor hart =
    record hart { csrs = after_sret hart.csrs; pc = hart.csrs.sepc; mode = mode_of_spp hart.csrs.mstatus.spp }

-- ---- the access of an instruction

-- `request` is the access that an instruction requests, at most one
unfoldable pub request : Instr → Hart → Request
request (Load kind rd rs1 offset) hart = requests.Load (address_of hart rs1 offset) (load_width kind)
request (Store kind rs1 rs2 offset) hart = requests.Store (address_of hart rs1 offset) (store_width kind) (register hart.regs rs2)
request _ hart = requests.Nothing

-- ---- the listing, for the hart, the instruction word, and the number that the load of the instruction read

module _ (hart : Hart) (word loaded : ℕ) where
  -- `x` is the value of a register
  abbrev pub x : ℕ → ℕ
  x rs = register hart.regs rs

  -- `relative` is the sum of pc and a sign-extended offset of `width` bits
  abbrev pub relative : ℕ → ℕ → ℕ
  relative offset width = sum_of hart.pc (sign_extended offset width)

  -- `proceeds` is the result of an instruction that only continues at the next instruction
  abbrev pub proceeds : Result Hart Trap
  proceeds = Ok (advanced hart)

  -- `gives` is the result of an instruction that writes a register and continues at the next instruction
  abbrev pub gives : ℕ → ℕ → Result Hart Trap
  gives rd value = Ok (with_result hart rd value)

  -- `executed` is the hart after an instruction, or its exception
  unfoldable pub executed : Instr → Result Hart Trap
  executed (Lui rd imm) = gives rd imm
  executed (Auipc rd imm) = gives rd (sum_of hart.pc imm)
  executed (Jal rd offset) = jumped hart rd (relative offset 21)
  executed (Jalr rd rs1 offset) = jumped hart rd (made_even (address_of hart rs1 offset))
  executed (Branch kind rs1 rs2 offset) = branched hart (is_taken kind (x rs1) (x rs2)) (relative offset 13)
  executed (Load kind rd rs1 offset) = gives rd (load_value kind loaded)
  executed (Store kind rs1 rs2 offset) = proceeds
  executed (OpImm kind rd rs1 imm) = gives rd (op_imm_value kind (x rs1) (sign_extended imm 12))
  executed (ShiftImm kind rd rs1 shamt) = gives rd (shift_value kind (x rs1) shamt)
  executed (Op kind rd rs1 rs2) = gives rd (op_value kind (x rs1) (x rs2))
  executed (Fence fm pred succ rd rs1) = proceeds
  executed (Csr kind rd rs1 csr) = unless_illegal word (csr_changed hart kind rd rs1 (x rs1) csr)
  executed (CsrImm kind rd uimm csr) = unless_illegal word (csr_changed hart kind rd uimm uimm csr)
  executed Ecall = Err (environment_call hart.mode)
  executed Ebreak = Err (breakpoint hart.pc)
  executed Sret = where_allowed (unless_refused hart.mode hart.csrs.mstatus.tsr) word (returned_from_supervisor hart)
  executed Mret = where_allowed (is_machine hart.mode) word (returned_from_machine hart)
  executed Wfi = where_allowed (unless_refused hart.mode hart.csrs.mstatus.tw) word (advanced hart)
  executed (SfenceVma rs1 rs2) = where_allowed (unless_refused hart.mode hart.csrs.mstatus.tvm) word (advanced hart)
