-- The word of an instruction is read back as this instruction (`read_word_of`). A word therefore encodes at most one instruction.
use Rattle.std.proofs.Common.{◌≡◌, ℕ, ◌<◌, Some, None, refl, sym, ap, ◌∙◌, arith}
use Rattle.rv_word.specs.BitFields.{bits}
use Rattle.rv_encoding.specs.Places.{rd_at, rs1_at, rs2_at, i_immediate_at, s_immediate_at, b_immediate_at, shamt_at}
use Rattle.rv_encoding.specs.Places.{fm_at, pred_at, succ_at, csr_at, uimm_at, taken}
use Rattle.rv_encoding.specs.Codes.{jalr_opcode, branch_opcode, load_opcode, store_opcode, op_imm_opcode, op_opcode, misc_mem_opcode, system_opcode}
use Rattle.rv_encoding.specs.Codes.{branch_funct3, load_funct3, store_funct3, op_imm_funct3, shift_functs, op_functs, csr_funct3, csr_imm_funct3}
use Rattle.rv_encoding.specs.Codes.{branch_kind, load_kind, store_kind, op_imm_kind, shift_kind, op_kind, csr_kind, csr_imm_kind}
use Rattle.rv_encoding.specs.Rows.{IsInstr, word_of, Encodes}
use Rattle.rv_encoding.proofs.Reading.{opcode_in, funct3_in, funct7_in}
use Rattle.rv_encoding.proofs.Reading.{read, read_jalr, read_branch, read_load, read_store, read_op_imm, read_op, read_fence, read_whole, read_system}
use Rattle.rv_encoding.proofs.CodeLemmas.{branch_kind_found, branch_funct3-lt, load_kind_found, load_funct3-lt, store_kind_found, store_funct3-lt}
use Rattle.rv_encoding.proofs.CodeLemmas.{op_imm_kind_found, op_imm_funct3-lt, csr_kind_found, csr_funct3-lt, csr_imm_kind_found, csr_imm_funct3-lt}
use Rattle.rv_encoding.proofs.CodeLemmas.{shift_kind_found, shift_functs-lt, op_kind_found, op_functs-lt, no_shift, no_csr}
use Rattle.rv_encoding.specs.declared.kind.BranchKind.{BranchKind}
use Rattle.rv_encoding.specs.declared.kind.LoadKind.{LoadKind}
use Rattle.rv_encoding.specs.declared.kind.StoreKind.{StoreKind}
use Rattle.rv_encoding.specs.declared.kind.OpImmKind.{OpImmKind}
use Rattle.rv_encoding.specs.declared.kind.ShiftKind.{ShiftKind}
use Rattle.rv_encoding.specs.declared.kind.OpKind.{OpKind}
use Rattle.rv_encoding.specs.declared.kind.CsrKind.{CsrKind}
use Rattle.rv_encoding.specs.declared.instr.Instr.{Instr}
use Rattle.rv_encoding.specs.declared.instr.Instr.TheVariants.{Lui, Auipc, Jal, Jalr, Branch, Load, Store, OpImm, ShiftImm, Op, Fence}
use Rattle.rv_encoding.specs.declared.instr.Instr.TheVariants.{Csr, CsrImm, Ecall, Ebreak, Sret, Mret, Wfi, SfenceVma}

-- ---- a word of each opcode is read by its fields; each lemma rewrites `read` by the equations for the opcode, the kind and the fields

-- a word with the opcode and funct3 of a branch is read as the branch with its fields
read_branch_is : (word : ℕ) (kind : BranchKind) (rs1 rs2 offset : ℕ) → opcode_in word ≡ branch_opcode → branch_kind (funct3_in word) ≡ Some kind
    → taken rs1_at word ≡ rs1 → taken rs2_at word ≡ rs2 → taken b_immediate_at word ≡ offset → read word ≡ Some (Branch kind rs1 rs2 offset)
read_branch_is word kind rs1 rs2 offset has_opcode has_kind rs1_is rs2_is offset_is = rw (has_opcode, has_kind, rs1_is, rs2_is, offset_is) refl

-- a word with the opcode and funct3 of a load is read as the load with its fields
read_load_is : (word : ℕ) (kind : LoadKind) (rd rs1 offset : ℕ) → opcode_in word ≡ load_opcode → load_kind (funct3_in word) ≡ Some kind
    → taken rd_at word ≡ rd → taken rs1_at word ≡ rs1 → taken i_immediate_at word ≡ offset → read word ≡ Some (Load kind rd rs1 offset)
read_load_is word kind rd rs1 offset has_opcode has_kind rd_is rs1_is offset_is = rw (has_opcode, has_kind, rd_is, rs1_is, offset_is) refl

-- a word with the opcode and funct3 of a store is read as the store with its fields
read_store_is : (word : ℕ) (kind : StoreKind) (rs1 rs2 offset : ℕ) → opcode_in word ≡ store_opcode → store_kind (funct3_in word) ≡ Some kind
    → taken rs1_at word ≡ rs1 → taken rs2_at word ≡ rs2 → taken s_immediate_at word ≡ offset → read word ≡ Some (Store kind rs1 rs2 offset)
read_store_is word kind rs1 rs2 offset has_opcode has_kind rs1_is rs2_is offset_is = rw (has_opcode, has_kind, rs1_is, rs2_is, offset_is) refl

-- a word with the opcode and funct3 of an instruction with a register and an immediate, which is no shift, is read as this instruction
read_op_imm_is : (word : ℕ) (kind : OpImmKind) (rd rs1 imm : ℕ) → opcode_in word ≡ op_imm_opcode
    → shift_kind (funct3_in word) (funct7_in word) ≡ None → op_imm_kind (funct3_in word) ≡ Some kind → taken rd_at word ≡ rd
    → taken rs1_at word ≡ rs1 → taken i_immediate_at word ≡ imm → read word ≡ Some (OpImm kind rd rs1 imm)
read_op_imm_is word kind rd rs1 imm has_opcode is_no_shift has_kind rd_is rs1_is imm_is =
    rw (has_opcode, is_no_shift, has_kind, rd_is, rs1_is, imm_is) refl

-- a word with the opcode, funct3 and funct7 of a shift is read as the shift with its fields
read_shift_imm_is : (word : ℕ) (kind : ShiftKind) (rd rs1 shamt : ℕ) → opcode_in word ≡ op_imm_opcode
    → shift_kind (funct3_in word) (funct7_in word) ≡ Some kind → taken rd_at word ≡ rd → taken rs1_at word ≡ rs1 → taken shamt_at word ≡ shamt
    → read word ≡ Some (ShiftImm kind rd rs1 shamt)
read_shift_imm_is word kind rd rs1 shamt has_opcode has_kind rd_is rs1_is shamt_is = rw (has_opcode, has_kind, rd_is, rs1_is, shamt_is) refl

-- a word with the opcode, funct3 and funct7 of an instruction with two registers is read as this instruction with the fields of the word
read_op_is : (word : ℕ) (kind : OpKind) (rd rs1 rs2 : ℕ) → opcode_in word ≡ op_opcode → op_kind (funct3_in word) (funct7_in word) ≡ Some kind
    → taken rd_at word ≡ rd → taken rs1_at word ≡ rs1 → taken rs2_at word ≡ rs2 → read word ≡ Some (Op kind rd rs1 rs2)
read_op_is word kind rd rs1 rs2 has_opcode has_kind rd_is rs1_is rs2_is = rw (has_opcode, has_kind, rd_is, rs1_is, rs2_is) refl

-- a word with the opcode and funct3 of a CSR instruction with a register is read as this instruction with the fields of the word
read_csr_is : (word : ℕ) (kind : CsrKind) (rd rs1 csr : ℕ) → opcode_in word ≡ system_opcode → csr_kind (funct3_in word) ≡ Some kind
    → taken rd_at word ≡ rd → taken rs1_at word ≡ rs1 → taken csr_at word ≡ csr → read word ≡ Some (Csr kind rd rs1 csr)
read_csr_is word kind rd rs1 csr has_opcode has_kind rd_is rs1_is csr_is = rw (has_opcode, has_kind, rd_is, rs1_is, csr_is) refl

-- a word with the opcode and funct3 of a CSR instruction with an immediate is read as this instruction with the fields of the word
read_csr_imm_is : (word : ℕ) (kind : CsrKind) (rd uimm csr : ℕ) → opcode_in word ≡ system_opcode → csr_kind (funct3_in word) ≡ None
    → csr_imm_kind (funct3_in word) ≡ Some kind → taken rd_at word ≡ rd → taken uimm_at word ≡ uimm → taken csr_at word ≡ csr
    → read word ≡ Some (CsrImm kind rd uimm csr)
read_csr_imm_is word kind rd uimm csr has_opcode has_no_register_kind has_kind rd_is uimm_is csr_is =
    rw (has_opcode, has_no_register_kind, has_kind, rd_is, uimm_is, csr_is) refl

-- a word with the opcode and funct3 of fence is read as the fence with its fields
read_fence_is : (word fm pred succ rd rs1 : ℕ) → opcode_in word ≡ misc_mem_opcode → funct3_in word ≡ 0
    → taken fm_at word ≡ fm → taken pred_at word ≡ pred → taken succ_at word ≡ succ → taken rd_at word ≡ rd → taken rs1_at word ≡ rs1
    → read word ≡ Some (Fence fm pred succ rd rs1)
read_fence_is word fm pred succ rd rs1 has_opcode funct3_is_0 fm_is pred_is succ_is rd_is rs1_is =
    rw (has_opcode, funct3_is_0, fm_is, pred_is, succ_is, rd_is, rs1_is) refl

-- a word with the opcode SYSTEM and funct3 0 encodes no CSR instruction, and is read as a privileged instruction
read_whole_word : (word : ℕ) → opcode_in word ≡ system_opcode → funct3_in word ≡ 0 → read word ≡ read_whole word
read_whole_word word has_opcode funct3_is_0 = rw (has_opcode, funct3_is_0) refl

-- a word with the fixed bits of sfence.vma is read as sfence.vma with the fields of the word
read_sfence_vma : (word rs1 rs2 : ℕ) → funct7_in word ≡ 0b0001001 → bits word 14 7 ≡ 0 → taken rs1_at word ≡ rs1 → taken rs2_at word ≡ rs2
    → read_whole word ≡ Some (SfenceVma rs1 rs2)
read_sfence_vma word rs1 rs2 has_funct7 funct3_and_rd_are_0 rs1_is rs2_is = grind arith

-- ---- each instruction is read from its word

-- The word of an instruction is read back as the instruction. `valid` states that each field is in its range. By arithmetic
-- (`omega`), the opcode, the codes and the fields of the word are those of the instruction. The lemma above for the group of the instruction then
-- applies.
pub read_word_of : (instr : Instr) → IsInstr instr → read (word_of instr) ≡ Some instr
unfolding word_of
read_word_of (Lui rd imm) valid = grind arith
read_word_of (Auipc rd imm) valid = grind arith
read_word_of (Jal rd offset) valid = grind arith
read_word_of (Jalr rd rs1 offset) valid = grind arith
read_word_of (Branch kind rs1 rs2 offset) valid =
    let word : ℕ = word_of (Branch kind rs1 rs2 offset) in
    let funct3_is_3_bits : branch_funct3 kind < 8 = branch_funct3-lt kind in
    let funct3_is : funct3_in (word_of (Branch kind rs1 rs2 offset)) ≡ branch_funct3 kind = omega arith in
    let has_kind = ap branch_kind funct3_is ∙ branch_kind_found kind in
    read_branch_is word kind rs1 rs2 offset (omega arith) has_kind (omega arith) (omega arith) (omega arith)
read_word_of (Load kind rd rs1 offset) valid =
    let word : ℕ = word_of (Load kind rd rs1 offset) in
    let funct3_is_3_bits : load_funct3 kind < 8 = load_funct3-lt kind in
    let funct3_is : funct3_in (word_of (Load kind rd rs1 offset)) ≡ load_funct3 kind = omega arith in
    let has_kind = ap load_kind funct3_is ∙ load_kind_found kind in
    read_load_is word kind rd rs1 offset (omega arith) has_kind (omega arith) (omega arith) (omega arith)
read_word_of (Store kind rs1 rs2 offset) valid =
    let word : ℕ = word_of (Store kind rs1 rs2 offset) in
    let funct3_is_3_bits : store_funct3 kind < 8 = store_funct3-lt kind in
    let funct3_is : funct3_in (word_of (Store kind rs1 rs2 offset)) ≡ store_funct3 kind = omega arith in
    let has_kind = ap store_kind funct3_is ∙ store_kind_found kind in
    read_store_is word kind rs1 rs2 offset (omega arith) has_kind (omega arith) (omega arith) (omega arith)
read_word_of (OpImm kind rd rs1 imm) valid =
    let word : ℕ = word_of (OpImm kind rd rs1 imm) in
    let funct3_is_3_bits : op_imm_funct3 kind < 8 = op_imm_funct3-lt kind in
    let funct3_is : funct3_in (word_of (OpImm kind rd rs1 imm)) ≡ op_imm_funct3 kind = omega arith in
    let is_no_shift = ap (λ funct3. shift_kind funct3 (funct7_in word)) funct3_is ∙ no_shift kind (funct7_in word) in
    let has_kind = ap op_imm_kind funct3_is ∙ op_imm_kind_found kind in
    read_op_imm_is word kind rd rs1 imm (omega arith) is_no_shift has_kind (omega arith) (omega arith) (omega arith)
read_word_of (ShiftImm kind rd rs1 shamt) valid =
    let word : ℕ = word_of (ShiftImm kind rd rs1 shamt) in
    let functs_fit : ((shift_functs kind).funct3 < 8) × ((shift_functs kind).funct7 < 128) = shift_functs-lt kind in
    let funct3_is : funct3_in (word_of (ShiftImm kind rd rs1 shamt)) ≡ (shift_functs kind).funct3 = omega arith in
    let funct7_is : funct7_in (word_of (ShiftImm kind rd rs1 shamt)) ≡ (shift_functs kind).funct7 = omega arith in
    let has_kind = ap (λ funct3. shift_kind funct3 (funct7_in word)) funct3_is ∙ ap (shift_kind (shift_functs kind).funct3) funct7_is
    ∙ shift_kind_found kind in
    read_shift_imm_is word kind rd rs1 shamt (omega arith) has_kind (omega arith) (omega arith) (omega arith)
read_word_of (Op kind rd rs1 rs2) valid =
    let word : ℕ = word_of (Op kind rd rs1 rs2) in
    let functs_fit : ((op_functs kind).funct3 < 8) × ((op_functs kind).funct7 < 128) = op_functs-lt kind in
    let funct3_is : funct3_in (word_of (Op kind rd rs1 rs2)) ≡ (op_functs kind).funct3 = omega arith in
    let funct7_is : funct7_in (word_of (Op kind rd rs1 rs2)) ≡ (op_functs kind).funct7 = omega arith in
    let has_kind = ap (λ funct3. op_kind funct3 (funct7_in word)) funct3_is ∙ ap (op_kind (op_functs kind).funct3) funct7_is ∙ op_kind_found kind in
    read_op_is word kind rd rs1 rs2 (omega arith) has_kind (omega arith) (omega arith) (omega arith)
read_word_of (Fence fm pred succ rd rs1) valid =
    let word : ℕ = word_of (Fence fm pred succ rd rs1) in
    read_fence_is word fm pred succ rd rs1 (omega arith) (omega arith) (omega arith) (omega arith) (omega arith) (omega arith) (omega arith)
read_word_of (Csr kind rd rs1 csr) valid =
    let word : ℕ = word_of (Csr kind rd rs1 csr) in
    let funct3_is_3_bits : csr_funct3 kind < 8 = csr_funct3-lt kind in
    let funct3_is : funct3_in (word_of (Csr kind rd rs1 csr)) ≡ csr_funct3 kind = omega arith in
    let has_kind = ap csr_kind funct3_is ∙ csr_kind_found kind in
    read_csr_is word kind rd rs1 csr (omega arith) has_kind (omega arith) (omega arith) (omega arith)
read_word_of (CsrImm kind rd uimm csr) valid =
    let word : ℕ = word_of (CsrImm kind rd uimm csr) in
    let funct3_is_3_bits : csr_imm_funct3 kind < 8 = csr_imm_funct3-lt kind in
    let funct3_is : funct3_in (word_of (CsrImm kind rd uimm csr)) ≡ csr_imm_funct3 kind = omega arith in
    let has_no_register_kind = ap csr_kind funct3_is ∙ no_csr kind in
    let has_kind = ap csr_imm_kind funct3_is ∙ csr_imm_kind_found kind in
    read_csr_imm_is word kind rd uimm csr (omega arith) has_no_register_kind has_kind (omega arith) (omega arith) (omega arith)
read_word_of Ecall valid = refl
read_word_of Ebreak valid = refl
read_word_of Sret valid = refl
read_word_of Mret valid = refl
read_word_of Wfi valid = refl
read_word_of (SfenceVma rs1 rs2) valid =
    let word : ℕ = word_of (SfenceVma rs1 rs2) in
    read_whole_word word (omega arith) (omega arith) ∙ read_sfence_vma word rs1 rs2 (omega arith) (omega arith) (omega arith) (omega arith)

-- ---- the instruction that a word encodes is the one that the function for its opcode reads

-- a word that encodes an instruction is read as this instruction
pub only_read : (word : ℕ) (instr : Instr) → Encodes word instr → read word ≡ Some instr
only_read word instr encodes = ap read (sym encodes.1) ∙ read_word_of instr encodes.0

-- if a word with the opcode JALR encodes an instruction, `read_jalr` reads this instruction from it
pub only_jalr : (word : ℕ) (instr : Instr) → opcode_in word ≡ jalr_opcode → Encodes word instr → read_jalr word ≡ Some instr
only_jalr word instr has_opcode encodes = let read_is = only_read word instr encodes in rw has_opcode at read_is

-- if a word with the opcode BRANCH encodes an instruction, `read_branch` reads this instruction from it
pub only_branch : (word : ℕ) (instr : Instr) → opcode_in word ≡ branch_opcode → Encodes word instr → read_branch word ≡ Some instr
only_branch word instr has_opcode encodes = let read_is = only_read word instr encodes in rw has_opcode at read_is

-- if a word with the opcode LOAD encodes an instruction, `read_load` reads this instruction from it
pub only_load : (word : ℕ) (instr : Instr) → opcode_in word ≡ load_opcode → Encodes word instr → read_load word ≡ Some instr
only_load word instr has_opcode encodes = let read_is = only_read word instr encodes in rw has_opcode at read_is

-- if a word with the opcode STORE encodes an instruction, `read_store` reads this instruction from it
pub only_store : (word : ℕ) (instr : Instr) → opcode_in word ≡ store_opcode → Encodes word instr → read_store word ≡ Some instr
only_store word instr has_opcode encodes = let read_is = only_read word instr encodes in rw has_opcode at read_is

-- if a word with the opcode OP-IMM encodes an instruction, `read_op_imm` reads this instruction from it
pub only_op_imm : (word : ℕ) (instr : Instr) → opcode_in word ≡ op_imm_opcode → Encodes word instr → read_op_imm word ≡ Some instr
only_op_imm word instr has_opcode encodes = let read_is = only_read word instr encodes in rw has_opcode at read_is

-- if a word with the opcode OP encodes an instruction, `read_op` reads this instruction from it
pub only_op : (word : ℕ) (instr : Instr) → opcode_in word ≡ op_opcode → Encodes word instr → read_op word ≡ Some instr
only_op word instr has_opcode encodes = let read_is = only_read word instr encodes in rw has_opcode at read_is

-- if a word with the opcode MISC-MEM encodes an instruction, `read_fence` reads this instruction from it
pub only_fence : (word : ℕ) (instr : Instr) → opcode_in word ≡ misc_mem_opcode → Encodes word instr → read_fence word ≡ Some instr
only_fence word instr has_opcode encodes = let read_is = only_read word instr encodes in rw has_opcode at read_is

-- if a word with the opcode SYSTEM encodes an instruction, `read_system` reads this instruction from it
pub only_system : (word : ℕ) (instr : Instr) → opcode_in word ≡ system_opcode → Encodes word instr → read_system word ≡ Some instr
only_system word instr has_opcode encodes = let read_is = only_read word instr encodes in rw has_opcode at read_is

-- if a word with the opcode SYSTEM and without the funct3 of a CSR instruction encodes an instruction, `read_whole` reads this instruction
pub only_whole : (word : ℕ) (instr : Instr) → opcode_in word ≡ system_opcode → csr_kind (funct3_in word) ≡ None → csr_imm_kind (funct3_in word) ≡ None
    → Encodes word instr → read_whole word ≡ Some instr
only_whole word instr has_opcode has_no_register_kind has_no_immediate_kind encodes =
    let read_is = only_system word instr has_opcode encodes in grind arith
