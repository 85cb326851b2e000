-- The instructions that read and change a control and status register (RISC-V Unprivileged ISA 20191213, section 9.1 and table 9.1). If an
-- access is refused, the instruction is illegal and nothing is read or written.
use Rattle.std.specs.Prelude.{ℕ, ◌==◌, Bool, true, not, Option, Some, None, Result, Ok, Err, if◌then◌else◌}
use Rattle.rv_word.specs.Cases.{result_case}
use Rattle.rv_word.specs.Logic.{or_by_bits, and_not_by_bits}
use Rattle.rv_encoding.specs.declared.instr.Instr.{Instr}
use Rattle.rv_encoding.specs.declared.instr.Instr.TheVariants.{Csr, CsrImm}
use Rattle.rv_encoding.specs.declared.kind.CsrKind.{CsrKind}
use Rattle.rv_encoding.specs.declared.kind.CsrKind.TheVariants as kinds
use Rattle.rv_state.specs.CsrState.{CsrState}
use Rattle.rv_state.specs.CsrTable.{read_result, write_result}
use Rattle.rv_state.specs.declared.csr_fault.CsrFault.{CsrFault}
use Rattle.rv_hart.specs.Hart.{with_result}
use Rattle.rv_hart.specs.HartRecord.{Hart}

-- `is_read` states whether the register is read: csrrw and csrrwi do not read it if rd is x0
abbrev pub is_read : CsrKind → ℕ → Bool
is_read kinds.Write rd = not (rd == 0)
is_read kinds.Set rd = true
is_read kinds.Clear rd = true

-- Whether the register is written. The source is the number of rs1, or the immediate. csrrs, csrrc and their immediate forms do not write the
-- register if the source is 0.
abbrev pub is_written : CsrKind → ℕ → Bool
is_written kinds.Write source = true
is_written kinds.Set source = not (source == 0)
is_written kinds.Clear source = not (source == 0)

-- `changed_word` is the written word, from the old word and the operand
abbrev pub changed_word : CsrKind → ℕ → ℕ → ℕ
changed_word kinds.Write old operand = operand
changed_word kinds.Set old operand = or_by_bits old operand
changed_word kinds.Clear old operand = and_not_by_bits old operand

-- `old_word` is the word that rd gets, which is 0 if nothing is read (rd is then x0)
abbrev pub old_word : Hart → CsrKind → ℕ → ℕ → Result ℕ CsrFault
old_word hart kind rd csr = if is_read kind rd then read_result hart.csrs csr hart.mode else Ok 0

-- `new_csrs` has the registers after the instruction: unchanged if it does not write, or else after the write or with its fault
abbrev pub new_csrs : Hart → CsrKind → ℕ → ℕ → ℕ → Result CsrState CsrFault
new_csrs hart kind source word csr = if is_written kind source then write_result hart.csrs csr word hart.mode else Ok hart.csrs

-- the fault of the first access, or the result of what follows it
abbrev pub unless_fault : {A B : Type 0} → Result A CsrFault → (A → Result B CsrFault) → Result B CsrFault
unless_fault access go = result_case access go Err

-- `csr_changed` is the hart after the change, with the old word in rd
unfoldable pub csr_changed : Hart → CsrKind → ℕ → ℕ → ℕ → ℕ → Result Hart CsrFault
csr_changed hart kind rd source operand csr =
    unless_fault (old_word hart kind rd csr) (λ old.
    unless_fault (new_csrs hart kind source (changed_word kind old operand) csr) (λ csrs.
    Ok (with_result (record hart { csrs = csrs }) rd old)))

-- `written_csr` is the number of the control and status register that an instruction writes if it retires
unfoldable pub written_csr : Instr → Option ℕ
written_csr (Csr kind rd rs1 csr) = if is_written kind rs1 then Some csr else None
written_csr (CsrImm kind rd uimm csr) = if is_written kind uimm then Some csr else None
written_csr _ = None
