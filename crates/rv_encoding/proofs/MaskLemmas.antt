-- A word encodes an instruction of a row if and only if it equals the row's match under the row's mask.
use Rattle.std.proofs.Common.{◌≡◌, ℕ, ◌+◌, ◌*◌, ◌/◌, ◌%◌, ◌^◌, ◌<◌, sym, ap, ◌∙◌, arith, refl, bit_and}
use Rattle.std.proofs.lemmas.Nat.{and_mask, and_block, div-add-mod'}
use Rattle.rv_word.specs.Logic.{and_by_bits}
use Rattle.rv_word.proofs.LogicLemmas.{bit_and_is}
use Rattle.rv_encoding.specs.Codes.{branch_funct3, load_funct3, store_funct3, op_imm_funct3, shift_functs, op_functs, csr_funct3, csr_imm_funct3}
use Rattle.rv_encoding.specs.Rows.{row_of_instr, IsInstr, word_of, Encodes}
use Rattle.rv_encoding.specs.Decoding.{with_fields_of}
use Rattle.rv_encoding.proofs.CodeLemmas.{branch_funct3-lt, load_funct3-lt, store_funct3-lt, op_imm_funct3-lt, shift_functs-lt}
use Rattle.rv_encoding.proofs.CodeLemmas.{op_functs-lt, csr_funct3-lt, csr_imm_funct3-lt}
use Rattle.rv_encoding.specs.declared.instr.Instr.{Instr}
use Rattle.rv_encoding.specs.declared.instr.Instr.TheVariants.{Lui, Auipc, Jal, Jalr, Branch, Load, Store, OpImm, ShiftImm, Op, Fence}
use Rattle.rv_encoding.specs.declared.instr.Instr.TheVariants.{Csr, CsrImm, Ecall, Ebreak, Sret, Mret, Wfi, SfenceVma}

-- ---- a word under each mask

-- the mask of a row that fixes opcode (bits 6:0) and funct3 (bits 14:12)
abbrev funct3_mask : ℕ
funct3_mask = 0x0000707F

-- the mask of a row that fixes opcode, funct3 and funct7 (bits 31:25)
abbrev funct7_mask : ℕ
funct7_mask = 0xFE00707F

-- the mask of the row of sfence.vma, which fixes funct7 and bits 14:0: opcode, rd and funct3
abbrev sfence_vma_mask : ℕ
sfence_vma_mask = 0xFE007FFF

-- the mask 0x0000707F selects opcode and funct3 of a word; the mask is split at bit 12
under_funct3_mask : (word : ℕ) → bit_and word funct3_mask ≡ word % 2 ^ 7 + word / 2 ^ 12 % 2 ^ 3 * 2 ^ 12
under_funct3_mask word =
    ap (λ bits. bit_and bits funct3_mask) (sym (div-add-mod' word (2 ^ 12)))
    ∙ and_block 12 (word / 2 ^ 12) 0b111 (word % 2 ^ 12) 0b1111111 (omega arith) (omega arith)
    ∙ ap (λ high_bits. high_bits * 2 ^ 12 + bit_and (word % 2 ^ 12) 0b1111111) (and_mask (word / 2 ^ 12) 3)
    ∙ ap (λ low_bits. word / 2 ^ 12 % 2 ^ 3 * 2 ^ 12 + low_bits) (and_mask (word % 2 ^ 12) 7)
    ∙ omega arith

-- a mask with bits 31:25 set selects these bits of a word, and its lower part `low` selects bits 24:0
under_top_mask : (word low : ℕ) → word < 2 ^ 32 → low < 2 ^ 25
    → bit_and word (0b1111111 * 2 ^ 25 + low) ≡ word / 2 ^ 25 * 2 ^ 25 + bit_and (word % 2 ^ 25) low
under_top_mask word low is_32_bits low_is_25_bits =
    ap (λ bits. bit_and bits (0b1111111 * 2 ^ 25 + low)) (sym (div-add-mod' word (2 ^ 25)))
    ∙ and_block 25 (word / 2 ^ 25) 0b1111111 (word % 2 ^ 25) low (omega arith) low_is_25_bits
    ∙ ap (λ high_bits. high_bits * 2 ^ 25 + bit_and (word % 2 ^ 25) low) (and_mask (word / 2 ^ 25) 7)
    ∙ omega arith

-- the mask 0xFE00707F selects opcode, funct3 and funct7 of a word
under_funct7_mask : (word : ℕ) → word < 2 ^ 32 → bit_and word funct7_mask ≡ word / 2 ^ 25 * 2 ^ 25 + (word % 2 ^ 7 + word / 2 ^ 12 % 2 ^ 3 * 2 ^ 12)
under_funct7_mask word is_32_bits =
    under_top_mask word funct3_mask is_32_bits (omega arith)
    ∙ ap (λ low_bits. word / 2 ^ 25 * 2 ^ 25 + low_bits) (under_funct3_mask (word % 2 ^ 25))
    ∙ omega arith

-- the mask 0xFE007FFF selects the bits that sfence.vma fixes: funct7 and bits 14:0
under_sfence_vma_mask : (word : ℕ) → word < 2 ^ 32 → bit_and word sfence_vma_mask ≡ word / 2 ^ 25 * 2 ^ 25 + word % 2 ^ 15
under_sfence_vma_mask word is_32_bits =
    under_top_mask word 0x00007FFF is_32_bits (omega arith)
    ∙ ap (λ low_bits. word / 2 ^ 25 * 2 ^ 25 + low_bits) (and_mask (word % 2 ^ 25) 15)
    ∙ omega arith

-- the mask with all bits set selects the whole word
under_full_mask : (word : ℕ) → word < 2 ^ 32 → bit_and word 0xFFFFFFFF ≡ word
under_full_mask word is_32_bits = and_mask word 32 ∙ omega arith

-- ---- a word that equals the match under the mask encodes an instruction with the fields of the word

-- If a word equals the match of the row of an instruction under the row's mask, applied by `&`, it encodes the instruction with the fields of the
-- word. The lemma for the mask gives the fixed bits of the word as a sum. The rest is arithmetic over the fields.
encodes_by_and : (instr : Instr) (word : ℕ) → word < 2 ^ 32 → bit_and word (row_of_instr instr).mask ≡ (row_of_instr instr).match
    → Encodes word (with_fields_of word instr)
unfolding word_of
encodes_by_and (Lui rd imm) word is_32_bits matches_row =
    let fixed_bits = sym (and_mask word 7) ∙ matches_row in (grind arith, omega (arith, fixed_bits))
encodes_by_and (Auipc rd imm) word is_32_bits matches_row =
    let fixed_bits = sym (and_mask word 7) ∙ matches_row in (grind arith, omega (arith, fixed_bits))
encodes_by_and (Jal rd offset) word is_32_bits matches_row =
    let fixed_bits = sym (and_mask word 7) ∙ matches_row in (grind arith, omega (arith, fixed_bits))
encodes_by_and (Jalr rd rs1 offset) word is_32_bits matches_row =
    let fixed_bits = sym (under_funct3_mask word) ∙ matches_row in (grind arith, omega (arith, fixed_bits))
encodes_by_and (Branch kind rs1 rs2 offset) word is_32_bits matches_row =
    let funct3_is_3_bits : branch_funct3 kind < 8 = branch_funct3-lt kind in
    let fixed_bits = sym (under_funct3_mask word) ∙ matches_row in (grind arith, omega (arith, fixed_bits))
encodes_by_and (Load kind rd rs1 offset) word is_32_bits matches_row =
    let funct3_is_3_bits : load_funct3 kind < 8 = load_funct3-lt kind in
    let fixed_bits = sym (under_funct3_mask word) ∙ matches_row in (grind arith, omega (arith, fixed_bits))
encodes_by_and (Store kind rs1 rs2 offset) word is_32_bits matches_row =
    let funct3_is_3_bits : store_funct3 kind < 8 = store_funct3-lt kind in
    let fixed_bits = sym (under_funct3_mask word) ∙ matches_row in (grind arith, omega (arith, fixed_bits))
encodes_by_and (OpImm kind rd rs1 imm) word is_32_bits matches_row =
    let funct3_is_3_bits : op_imm_funct3 kind < 8 = op_imm_funct3-lt kind in
    let fixed_bits = sym (under_funct3_mask word) ∙ matches_row in (grind arith, omega (arith, fixed_bits))
encodes_by_and (ShiftImm kind rd rs1 shamt) word is_32_bits matches_row =
    let functs_fit : ((shift_functs kind).funct3 < 8) × ((shift_functs kind).funct7 < 128) = shift_functs-lt kind in
    let fixed_bits = sym (under_funct7_mask word is_32_bits) ∙ matches_row in (grind arith, omega (arith, fixed_bits))
encodes_by_and (Op kind rd rs1 rs2) word is_32_bits matches_row =
    let functs_fit : ((op_functs kind).funct3 < 8) × ((op_functs kind).funct7 < 128) = op_functs-lt kind in
    let fixed_bits = sym (under_funct7_mask word is_32_bits) ∙ matches_row in (grind arith, omega (arith, fixed_bits))
encodes_by_and (Fence fm pred succ rd rs1) word is_32_bits matches_row =
    let fixed_bits = sym (under_funct3_mask word) ∙ matches_row in (grind arith, omega (arith, fixed_bits))
encodes_by_and (Csr kind rd rs1 csr) word is_32_bits matches_row =
    let funct3_is_3_bits : csr_funct3 kind < 8 = csr_funct3-lt kind in
    let fixed_bits = sym (under_funct3_mask word) ∙ matches_row in (grind arith, omega (arith, fixed_bits))
encodes_by_and (CsrImm kind rd uimm csr) word is_32_bits matches_row =
    let funct3_is_3_bits : csr_imm_funct3 kind < 8 = csr_imm_funct3-lt kind in
    let fixed_bits = sym (under_funct3_mask word) ∙ matches_row in (grind arith, omega (arith, fixed_bits))
encodes_by_and Ecall word is_32_bits matches_row = (tt, sym (sym (under_full_mask word is_32_bits) ∙ matches_row))
encodes_by_and Ebreak word is_32_bits matches_row = (tt, sym (sym (under_full_mask word is_32_bits) ∙ matches_row))
encodes_by_and Sret word is_32_bits matches_row = (tt, sym (sym (under_full_mask word is_32_bits) ∙ matches_row))
encodes_by_and Mret word is_32_bits matches_row = (tt, sym (sym (under_full_mask word is_32_bits) ∙ matches_row))
encodes_by_and Wfi word is_32_bits matches_row = (tt, sym (sym (under_full_mask word is_32_bits) ∙ matches_row))
encodes_by_and (SfenceVma rs1 rs2) word is_32_bits matches_row =
    let fixed_bits = sym (under_sfence_vma_mask word is_32_bits) ∙ matches_row in (grind arith, omega (arith, fixed_bits))

-- ---- the word of an instruction equals the match under the mask

-- the word of an instruction equals the match of its row under the mask of the row, applied by `&`; by the lemma for the mask, then by arithmetic
word_matches_row : (instr : Instr) → IsInstr instr → word_of instr < 2 ^ 32
    → bit_and (word_of instr) (row_of_instr instr).mask ≡ (row_of_instr instr).match
unfolding word_of
word_matches_row (Lui rd imm) valid is_32_bits = and_mask (word_of (Lui rd imm)) 7 ∙ omega arith
word_matches_row (Auipc rd imm) valid is_32_bits = and_mask (word_of (Auipc rd imm)) 7 ∙ omega arith
word_matches_row (Jal rd offset) valid is_32_bits = and_mask (word_of (Jal rd offset)) 7 ∙ omega arith
word_matches_row (Jalr rd rs1 offset) valid is_32_bits = under_funct3_mask (word_of (Jalr rd rs1 offset)) ∙ omega arith
word_matches_row (Branch kind rs1 rs2 offset) valid is_32_bits =
    let funct3_is_3_bits : branch_funct3 kind < 8 = branch_funct3-lt kind in
    under_funct3_mask (word_of (Branch kind rs1 rs2 offset)) ∙ omega arith
word_matches_row (Load kind rd rs1 offset) valid is_32_bits =
    let funct3_is_3_bits : load_funct3 kind < 8 = load_funct3-lt kind in
    under_funct3_mask (word_of (Load kind rd rs1 offset)) ∙ omega arith
word_matches_row (Store kind rs1 rs2 offset) valid is_32_bits =
    let funct3_is_3_bits : store_funct3 kind < 8 = store_funct3-lt kind in
    under_funct3_mask (word_of (Store kind rs1 rs2 offset)) ∙ omega arith
word_matches_row (OpImm kind rd rs1 imm) valid is_32_bits =
    let funct3_is_3_bits : op_imm_funct3 kind < 8 = op_imm_funct3-lt kind in
    under_funct3_mask (word_of (OpImm kind rd rs1 imm)) ∙ omega arith
word_matches_row (ShiftImm kind rd rs1 shamt) valid is_32_bits =
    let functs_fit : ((shift_functs kind).funct3 < 8) × ((shift_functs kind).funct7 < 128) = shift_functs-lt kind in
    under_funct7_mask (word_of (ShiftImm kind rd rs1 shamt)) is_32_bits ∙ omega arith
word_matches_row (Op kind rd rs1 rs2) valid is_32_bits =
    let functs_fit : ((op_functs kind).funct3 < 8) × ((op_functs kind).funct7 < 128) = op_functs-lt kind in
    under_funct7_mask (word_of (Op kind rd rs1 rs2)) is_32_bits ∙ omega arith
word_matches_row (Fence fm pred succ rd rs1) valid is_32_bits =
    under_funct3_mask (word_of (Fence fm pred succ rd rs1)) ∙ omega arith
word_matches_row (Csr kind rd rs1 csr) valid is_32_bits =
    let funct3_is_3_bits : csr_funct3 kind < 8 = csr_funct3-lt kind in
    under_funct3_mask (word_of (Csr kind rd rs1 csr)) ∙ omega arith
word_matches_row (CsrImm kind rd uimm csr) valid is_32_bits =
    let funct3_is_3_bits : csr_imm_funct3 kind < 8 = csr_imm_funct3-lt kind in
    under_funct3_mask (word_of (CsrImm kind rd uimm csr)) ∙ omega arith
word_matches_row Ecall valid is_32_bits = refl
word_matches_row Ebreak valid is_32_bits = refl
word_matches_row Sret valid is_32_bits = refl
word_matches_row Mret valid is_32_bits = refl
word_matches_row Wfi valid is_32_bits = refl
word_matches_row (SfenceVma rs1 rs2) valid is_32_bits =
    under_sfence_vma_mask (word_of (SfenceVma rs1 rs2)) is_32_bits ∙ omega arith

-- ---- the same for the mask bit by bit

-- the mask of each row has 32 bits
mask_is_32_bits : (instr : Instr) → (row_of_instr instr).mask < 2 ^ 32
mask_is_32_bits instr = grind arith

-- masking by `&` is masking bit by bit
and_is_by_bits : (instr : Instr) (word : ℕ) → word < 2 ^ 32 → bit_and word (row_of_instr instr).mask ≡ and_by_bits word (row_of_instr instr).mask
and_is_by_bits instr word is_32_bits = bit_and_is word (row_of_instr instr).mask is_32_bits (mask_is_32_bits instr)

-- if a word equals the match of the row of an instruction under the row's mask, it encodes the instruction with the fields of the word
pub encodes_by_mask : (instr : Instr) (word : ℕ) → word < 2 ^ 32 → and_by_bits word (row_of_instr instr).mask ≡ (row_of_instr instr).match
    → Encodes word (with_fields_of word instr)
encodes_by_mask instr word is_32_bits matches_row = encodes_by_and instr word is_32_bits (and_is_by_bits instr word is_32_bits ∙ matches_row)

-- the word of an instruction equals the match of its row under the mask of the row
pub masked_word_of : (instr : Instr) → IsInstr instr → word_of instr < 2 ^ 32
    → and_by_bits (word_of instr) (row_of_instr instr).mask ≡ (row_of_instr instr).match
masked_word_of instr valid is_32_bits = sym (and_is_by_bits instr (word_of instr) is_32_bits) ∙ word_matches_row instr valid is_32_bits
