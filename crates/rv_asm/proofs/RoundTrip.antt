-- Assembling the disassembly of a word gives that word.
use Rattle.std.proofs.Common.{◌≡◌, ℕ, ◌*◌, ◌/◌, ◌^◌, ◌<◌, ◌≤◌, Bool, true, false, List, [], ◌∷◌, ◌++◌, length, Some}
use Rattle.std.proofs.Common.{None, Ok, refl, ap, ◌∙◌, arith, append_assoc, length-append}
use Rattle.std.specs.Prelude.{◌==◌, ◌&&◌, ◌||◌, codes, Option, IfSome, if◌then◌else◌}
use Rattle.std.specs.List.{list_all, flat_map}
use Rattle.std.proofs.lemmas.Bool.{and_parts, and_from}
use Rattle.std.proofs.lemmas.Bool.Decides.{nat_tests}
use Rattle.std.proofs.lemmas.List.Folds.{list_all-append}
use Rattle.rv_word.specs.Cases.{option_case}
use Rattle.rv_encoding.specs.Listing.{name_of}
use Rattle.rv_encoding.specs.Decoding.{decoded}
use Rattle.rv_encoding.specs.Rows.{word_of, IsInstr, Encodes}
use Rattle.rv_encoding.specs.declared.instr.Instr.{Instr}
use Rattle.rv_encoding.specs.declared.instr.Instr.TheVariants.{Lui, Auipc, Jal, Jalr, Branch, Load, Store, OpImm, ShiftImm, Op, Fence}
use Rattle.rv_encoding.specs.declared.instr.Instr.TheVariants.{Csr, CsrImm, Ecall, Ebreak, Sret, Mret, Wfi, SfenceVma}
use Rattle.rv_asm.specs.Cuts.{is_name, is_name_byte, label_text, statement_text, trimmed, operands_in}
use Rattle.rv_text.specs.Characters.{comma, space}
use Rattle.rv_text.specs.Digits.{hex_digits}
use Rattle.rv_text.specs.Lines.{lines_of}
use Rattle.rv_asm.specs.LineReading.{line_read}
use Rattle.rv_text.specs.GoodLines.{max_line, is_text}
use Rattle.rv_asm.specs.Mnemonics.{mnemonics}
use Rattle.rv_asm.specs.Program.{assembled}
use Rattle.rv_asm.specs.Statements.{statement_at, statement_of}
use Rattle.rv_disassembler.specs.Spelling.{accesses_text}
use Rattle.rv_disassembler.specs.Spelling.{line_text, instr_text, word_text, spelling, is_told_by_operands}
use Rattle.rv_asm.specs.declared.mnemonic.Mnemonic.TheVariants as mnemonic
use Rattle.rv_asm.specs.declared.statement.Statement.{Statement}
use Rattle.rv_asm.specs.declared.statement.Statement.TheVariants.{Instruction, Word}
use Rattle.rv_asm.proofs.Plain.{is_plain, IsPiece, IsPiece-from_test, ArePieces, spaced, operands_of-spaced}
use Rattle.rv_asm.proofs.PlainLines.{is_line_byte, one_line, line_at-plain, assembled-instruction, assembled-word}
use Rattle.rv_asm.proofs.ReadMnemonics.{mnemonic_of, piece-name, mnemonic-read-back}
use Rattle.rv_asm.proofs.ReadNumbers.{immediate-signed, branch_offset-signed, jump_offset-signed, five_bits-plus, csr_number-plus, word_of-plus}
use Rattle.rv_asm.proofs.ReadNumbers.{upper-plus}
use Rattle.rv_asm.proofs.ReadOperands.{piece-register, read-register, piece-small, read-small, piece-accesses, read-accesses, piece-hex, read-hex}
use Rattle.rv_asm.proofs.ReadOperands.{piece-hex_text, read-hex_text, read-csr, piece-signed, read-signed, read-target, piece-address, read-address}

-- ---- a line with a mnemonic and operands

-- plain bytes are bytes of a line
line-plain : (text : List ℕ) → list_all is_plain text ≡ true → list_all is_line_byte text ≡ true
line-plain [] are_plain = refl
line-plain (byte ∷ text) are_plain =
    let (byte_is_plain, others_are_plain) = and_parts (is_plain byte) (list_all is_plain text) are_plain in
    and_from _ _ (plain_in_line (is_plain byte) byte_is_plain) (line-plain text others_are_plain)
  where
    -- a byte is a byte of a line if it is plain, which the test `is_plain_byte` states (44 is a comma, and 32 a space)
    plain_in_line : (is_plain_byte : Bool) → is_plain_byte ≡ true → (is_plain_byte || byte == comma || byte == space) ≡ true
    plain_in_line true is_true = refl
    plain_in_line false is_true = grind (arith, nat_tests, is_true)

-- the commas, spaces and pieces after the first operand are bytes of a line
line-commas : (more : List (List ℕ)) → ArePieces more → list_all is_line_byte (flat_map (λ operand. codes ", " ++ operand) more) ≡ true
line-commas [] are_pieces = refl
line-commas (first ∷ more) (first_is_piece, others_are_pieces) =
    list_all-append is_line_byte first (flat_map (λ operand. codes ", " ++ operand) more)
    ∙ and_from _ _ (line-plain first first_is_piece.plain) (line-commas more others_are_pieces)

-- each comma with its space and its piece has at most 22 bytes
length-commas : (more : List (List ℕ)) → ArePieces more → length (flat_map (λ operand. codes ", " ++ operand) more) ≤ 22 * length more
length-commas [] are_pieces = omega arith
length-commas (first ∷ more) (first_is_piece, others_are_pieces) =
    omega (
      arith,
      first_is_piece.short,
      length-commas more others_are_pieces,
      length-append first (flat_map (λ operand. codes ", " ++ operand) more),
    )

-- a name and its operands are bytes of a line
line-spaced : (name first : List ℕ) (more : List (List ℕ)) → IsPiece name → IsPiece first → ArePieces more
    → list_all is_line_byte (name ++ spaced first more) ≡ true
line-spaced name first more name_is_piece first_is_piece are_pieces =
    list_all-append is_line_byte name (spaced first more)
    ∙ and_from _ _ (line-plain name name_is_piece.plain)
    (list_all-append is_line_byte first (flat_map (λ operand. codes ", " ++ operand) more)
    ∙ and_from _ _ (line-plain first first_is_piece.plain) (line-commas more are_pieces))

-- a name and one to three operands have at most `max_line` bytes
length-spaced : (name first : List ℕ) (more : List (List ℕ)) → IsPiece name → IsPiece first → ArePieces more → length more ≤ 2
    → length (name ++ spaced first more) ≤ max_line
length-spaced name first more name_is_piece first_is_piece are_pieces at_most_3 =
    omega (
      arith,
      name_is_piece.short,
      first_is_piece.short,
      at_most_3,
      length-commas more are_pieces,
      length-append name (spaced first more),
      length-append first (flat_map (λ operand. codes ", " ++ operand) more),
    )

-- a text has one line, and this line is read as a statement
record Says (text : List ℕ) (statement : Statement) : Type 0 where
  -- the text is one line
  is_one_line : lines_of text ≡ text ∷ []
  -- the line has no label, and is read as the statement
  is_read : line_read text ≡ Ok (record { label = None; statement = Some statement })

-- a line with a name and one to three operands is read as a statement, if `statement_at` reads this statement from it
line_is_read : (name first : List ℕ) (more : List (List ℕ)) (statement : Statement) → IsPiece name → IsPiece first → ArePieces more → length more ≤ 2
    → statement_at (name ++ spaced first more) ≡ Ok statement → Says (name ++ spaced first more) statement
line_is_read [] first more statement name_is_piece first_is_piece are_pieces at_most_3 statement_at_is = absurd (omega (arith, name_is_piece.some))
line_is_read (byte ∷ name) first more statement name_is_piece first_is_piece are_pieces at_most_3 statement_at_is =
    let are_line_bytes = line-spaced (byte ∷ name) first more name_is_piece first_is_piece are_pieces in
    let short = length-spaced (byte ∷ name) first more name_is_piece first_is_piece are_pieces at_most_3 in
    let (first_is_plain, others_are_plain) = and_parts (is_plain byte) (list_all is_plain name) name_is_piece.plain in
    record {
      is_one_line = one_line byte (name ++ spaced first more) are_line_bytes;
      is_read = line_at-plain byte (name ++ spaced first more) statement first_is_plain are_line_bytes short statement_at_is;
    }

-- the text of an instruction is its name and its operands
line_text-is : (name first : List ℕ) (more : List (List ℕ)) → line_text name (first ∷ more) ≡ name ++ spaced first more
unfolding line_text
line_text-is name first more = append_assoc name (space ∷ []) (first ++ flat_map (λ operand. codes ", " ++ operand) more)

-- an instruction with one to three operands assembles to its word, if its statement is read from these operands
assembled-line : (instr : Instr) {first : List ℕ} (more : List (List ℕ)) → IsPiece first → ArePieces more → length more ≤ 2
    → statement_of (mnemonic_of instr) (first ∷ more) ≡ Ok (Instruction instr)
    → assembled (line_text (name_of instr) (first ∷ more)) ≡ Ok (word_of instr ∷ [])
assembled-line instr {first} more first_is_piece are_pieces at_most_3 operands_read =
    let name_read = mnemonic-read-back instr (first ++ flat_map (λ operand. codes ", " ++ operand) more) in
    let operands_cut = ap (statement_of (mnemonic_of instr)) (operands_of-spaced first more first_is_piece are_pieces) in
    let line = line_is_read (name_of instr) first more (Instruction instr) (piece-name instr) first_is_piece are_pieces at_most_3
    (name_read ∙ operands_cut ∙ operands_read) in
    ap assembled (line_text-is (name_of instr) first more) ∙ assembled-instruction (name_of instr ++ spaced first more) instr line.is_one_line
    line.is_read

-- an instruction without operands assembles to its word
assembled-alone : (instr : Instr) → lines_of (name_of instr) ≡ name_of instr ∷ []
    → line_read (name_of instr) ≡ Ok (record { label = None; statement = Some (Instruction instr) })
    → assembled (line_text (name_of instr) []) ≡ Ok (word_of instr ∷ [])
unfolding line_text
assembled-alone instr is_one_line is_read = assembled-instruction (name_of instr) instr is_one_line is_read

-- ---- instructions, and words as numbers

-- if the operands of a fence determine it, its fields fm, rd and rs1 are 0
fence-fields-are-0 : (fm rd rs1 : ℕ) → ((fm == 0) && (rd == 0) && (rs1 == 0)) ≡ true → (fm ≡ 0) × (rd ≡ 0) × (rs1 ≡ 0)
fence-fields-are-0 fm rd rs1 fields_are_0 =
    (grind (arith, nat_tests, fields_are_0), grind (arith, nat_tests, fields_are_0), grind (arith, nat_tests, fields_are_0))

-- The disassembly of an instruction assembles to its word, if the operands determine the instruction. There is a case for each format: each
-- operand is a piece of the line, and is read back as the field that it was written from.
pub assembled-instr_text : (instr : Instr) → IsInstr instr → is_told_by_operands instr ≡ true → assembled (instr_text instr) ≡ Ok (word_of instr ∷ [])
unfolding instr_text line_read is_text label_text statement_text statement_at mnemonics is_name is_name_byte trimmed
-- `lui rd, n`: n is the hexadecimal text of the upper 20 bits of the immediate
assembled-instr_text (Lui rd imm) fields is_determined =
    let (rd_fits, (imm_fits_32_bits, imm_low_bits_are_0)) = fields in
    let upper_fits : imm / 2 ^ 12 < 2 ^ 20 = omega (arith, imm_fits_32_bits) in
    let rd_read = read-register rd rd_fits in
    let number_read = read-hex_text (imm / 2 ^ 12) upper_fits in
    let imm_read = upper-plus imm imm_fits_32_bits imm_low_bits_are_0 in
    assembled-line (Lui rd imm) _ (piece-register rd rd_fits) (piece-hex_text (imm / 2 ^ 12) upper_fits, tt) (omega arith)
    (rw (rd_read, number_read, imm_read) refl)
-- `auipc rd, n`, in the same form
assembled-instr_text (Auipc rd imm) fields is_determined =
    let (rd_fits, (imm_fits_32_bits, imm_low_bits_are_0)) = fields in
    let upper_fits : imm / 2 ^ 12 < 2 ^ 20 = omega (arith, imm_fits_32_bits) in
    let rd_read = read-register rd rd_fits in
    let number_read = read-hex_text (imm / 2 ^ 12) upper_fits in
    let imm_read = upper-plus imm imm_fits_32_bits imm_low_bits_are_0 in
    assembled-line (Auipc rd imm) _ (piece-register rd rd_fits) (piece-hex_text (imm / 2 ^ 12) upper_fits, tt) (omega arith)
    (rw (rd_read, number_read, imm_read) refl)
-- `jal rd, offset`: the offset has 21 bits and is even
assembled-instr_text (Jal rd offset) fields is_determined =
    let (rd_fits, (offset_fits_21_bits, offset_is_even)) = fields in
    let offset_has_8_digits : offset < 10 ^ 8 = omega (arith, offset_fits_21_bits) in
    let rd_read = read-register rd rd_fits in
    let target_read = read-target 21 offset offset_has_8_digits (omega arith) in
    let offset_read = jump_offset-signed offset offset_fits_21_bits offset_is_even in
    assembled-line (Jal rd offset) _ (piece-register rd rd_fits) (piece-signed 21 offset offset_has_8_digits (omega arith), tt) (omega arith)
    (rw (rd_read, target_read, offset_read) refl)
-- `jalr rd, offset(rs1)`
assembled-instr_text (Jalr rd rs1 offset) fields is_determined =
    let (rd_fits, rs1_fits, offset_fits) = fields in
    let rd_read = read-register rd rd_fits in
    let address_read = read-address offset rs1 offset_fits rs1_fits in
    let offset_read = immediate-signed offset offset_fits in
    assembled-line (Jalr rd rs1 offset) _ (piece-register rd rd_fits) (piece-address offset rs1 offset_fits rs1_fits, tt) (omega arith)
    (rw (rd_read, address_read, offset_read) refl)
-- `beq rs1, rs2, offset` and the other branches: the offset has 13 bits and is even
assembled-instr_text (Branch kind rs1 rs2 offset) fields is_determined =
    let (rs1_fits, rs2_fits, (offset_fits_13_bits, offset_is_even)) = fields in
    let offset_has_8_digits : offset < 10 ^ 8 = omega (arith, offset_fits_13_bits) in
    let rs1_read = read-register rs1 rs1_fits in
    let rs2_read = read-register rs2 rs2_fits in
    let target_read = read-target 13 offset offset_has_8_digits (omega arith) in
    let offset_read = branch_offset-signed offset offset_fits_13_bits offset_is_even in
    assembled-line (Branch kind rs1 rs2 offset) _ (piece-register rs1 rs1_fits)
    (piece-register rs2 rs2_fits, (piece-signed 13 offset offset_has_8_digits (omega arith), tt)) (omega arith)
    (rw (rs1_read, rs2_read, target_read, offset_read) refl)
-- `lw rd, offset(rs1)` and the other loads
assembled-instr_text (Load kind rd rs1 offset) fields is_determined =
    let (rd_fits, rs1_fits, offset_fits) = fields in
    let rd_read = read-register rd rd_fits in
    let address_read = read-address offset rs1 offset_fits rs1_fits in
    let offset_read = immediate-signed offset offset_fits in
    assembled-line (Load kind rd rs1 offset) _ (piece-register rd rd_fits) (piece-address offset rs1 offset_fits rs1_fits, tt) (omega arith)
    (rw (rd_read, address_read, offset_read) refl)
-- `sw rs2, offset(rs1)` and the other stores
assembled-instr_text (Store kind rs1 rs2 offset) fields is_determined =
    let (rs1_fits, rs2_fits, offset_fits) = fields in
    let rs2_read = read-register rs2 rs2_fits in
    let address_read = read-address offset rs1 offset_fits rs1_fits in
    let offset_read = immediate-signed offset offset_fits in
    assembled-line (Store kind rs1 rs2 offset) _ (piece-register rs2 rs2_fits) (piece-address offset rs1 offset_fits rs1_fits, tt) (omega arith)
    (rw (rs2_read, address_read, offset_read) refl)
-- `addi rd, rs1, imm` and the other instructions with a register and an immediate
assembled-instr_text (OpImm kind rd rs1 imm) fields is_determined =
    let (rd_fits, rs1_fits, imm_fits) = fields in
    let imm_has_8_digits : imm < 10 ^ 8 = omega (arith, imm_fits) in
    let rd_read = read-register rd rd_fits in
    let rs1_read = read-register rs1 rs1_fits in
    let number_read = read-signed 12 imm imm_has_8_digits (omega arith) in
    let imm_read = immediate-signed imm imm_fits in
    assembled-line (OpImm kind rd rs1 imm) _ (piece-register rd rd_fits)
    (piece-register rs1 rs1_fits, (piece-signed 12 imm imm_has_8_digits (omega arith), tt)) (omega arith)
    (rw (rd_read, rs1_read, number_read, imm_read) refl)
-- `slli rd, rs1, shamt` and the other shifts by an immediate
assembled-instr_text (ShiftImm kind rd rs1 shamt) fields is_determined =
    let (rd_fits, rs1_fits, shamt_fits) = fields in
    let rd_read = read-register rd rd_fits in
    let rs1_read = read-register rs1 rs1_fits in
    let number_read = read-small shamt shamt_fits in
    let shamt_read = five_bits-plus shamt shamt_fits in
    assembled-line (ShiftImm kind rd rs1 shamt) _ (piece-register rd rd_fits)
    (piece-register rs1 rs1_fits, (piece-small shamt shamt_fits, tt)) (omega arith) (rw (rd_read, rs1_read, number_read, shamt_read) refl)
-- `add rd, rs1, rs2` and the other instructions with two registers
assembled-instr_text (Op kind rd rs1 rs2) fields is_determined =
    let (rd_fits, rs1_fits, rs2_fits) = fields in
    let rd_read = read-register rd rd_fits in
    let rs1_read = read-register rs1 rs1_fits in
    let rs2_read = read-register rs2 rs2_fits in
    assembled-line (Op kind rd rs1 rs2) _ (piece-register rd rd_fits)
    (piece-register rs1 rs1_fits, (piece-register rs2 rs2_fits, tt)) (omega arith) (rw (rd_read, rs1_read, rs2_read) refl)
-- `fence pred, succ`: the operands determine it, since its other fields are 0
assembled-instr_text (Fence fm pred succ rd rs1) fields is_determined =
    let (fm_fits, pred_fits, succ_fits, rd_fits, rs1_fits) = fields in
    let (fm_is_0, rd_is_0, rs1_is_0) = fence-fields-are-0 fm rd rs1 is_determined in
    let pred_read = read-accesses pred pred_fits in
    let succ_read = read-accesses succ succ_fits in
    rw (fm_is_0, rd_is_0, rs1_is_0) (assembled-line (Fence 0 pred succ 0 0) (accesses_text succ ∷ []) (piece-accesses pred pred_fits)
    (piece-accesses succ succ_fits, tt) (omega arith) (rw (pred_read, succ_read) refl))
-- `csrrw rd, csr, rs1` and the other CSR instructions with a register; the CSR is a number of 3 digits
assembled-instr_text (Csr kind rd rs1 csr) fields is_determined =
    let (rd_fits, rs1_fits, csr_fits) = fields in
    let rd_read = read-register rd rd_fits in
    let csr_read = read-csr csr csr_fits in
    let rs1_read = read-register rs1 rs1_fits in
    let number_read = csr_number-plus csr csr_fits in
    assembled-line (Csr kind rd rs1 csr) _ (piece-register rd rd_fits)
    (piece-hex 3 csr (omega arith), (piece-register rs1 rs1_fits, tt)) (omega arith) (rw (rd_read, csr_read, rs1_read, number_read) refl)
-- `csrrwi rd, csr, uimm` and the other CSR instructions with an immediate
assembled-instr_text (CsrImm kind rd uimm csr) fields is_determined =
    let (rd_fits, uimm_fits, csr_fits) = fields in
    let rd_read = read-register rd rd_fits in
    let csr_read = read-csr csr csr_fits in
    let number_read = read-small uimm uimm_fits in
    let csr_number_read = csr_number-plus csr csr_fits in
    let uimm_read = five_bits-plus uimm uimm_fits in
    assembled-line (CsrImm kind rd uimm csr) _ (piece-register rd rd_fits)
    (piece-hex 3 csr (omega arith), (piece-small uimm uimm_fits, tt)) (omega arith)
    (rw (rd_read, csr_read, number_read, csr_number_read, uimm_read) refl)
-- `sfence.vma rs1, rs2`
assembled-instr_text (SfenceVma rs1 rs2) fields is_determined =
    let (rs1_fits, rs2_fits) = fields in
    let rs1_read = read-register rs1 rs1_fits in
    let rs2_read = read-register rs2 rs2_fits in
    assembled-line (SfenceVma rs1 rs2) _ (piece-register rs1 rs1_fits) (piece-register rs2 rs2_fits, tt) (omega arith)
    (rw (rs1_read, rs2_read) refl)
-- the instructions without operands, whose lines are computed
assembled-instr_text Ecall fields is_determined = assembled-alone Ecall refl refl
assembled-instr_text Ebreak fields is_determined = assembled-alone Ebreak refl refl
assembled-instr_text Sret fields is_determined = assembled-alone Sret refl refl
assembled-instr_text Mret fields is_determined = assembled-alone Mret refl refl
assembled-instr_text Wfi fields is_determined = assembled-alone Wfi refl refl

-- a line with `.word` is read as the statement of a word
word-statement : (rest : List ℕ) → statement_at (codes ".word" ++ space ∷ rest) ≡ statement_of mnemonic.Word (operands_in (space ∷ rest))
unfolding statement_at mnemonics is_name is_name_byte
word-statement rest = refl

-- the `.word` text of a word assembles to the word
pub assembled-word_text : (word : ℕ) → word < 2 ^ 32 → assembled (word_text word) ≡ Ok (word ∷ [])
unfolding word_text
assembled-word_text word fits_32_bits =
    let is_piece = piece-hex 8 word (omega arith) in
    let number_read = read-hex 8 word (omega arith) (omega arith) (omega (arith, fits_32_bits)) in
    let word_read = word_of-plus word fits_32_bits in
    let operand_read : statement_of mnemonic.Word ((codes "0x" ++ hex_digits 8 word) ∷ []) ≡ Ok (Word word) = rw (number_read, word_read) refl in
    let operand_cut = ap (statement_of mnemonic.Word) (operands_of-spaced (codes "0x" ++ hex_digits 8 word) [] is_piece tt) in
    let line =
    line_is_read (codes ".word") (codes "0x" ++ hex_digits 8 word) [] (Word word) (IsPiece-from_test (codes ".word") refl) is_piece tt (omega arith)
    (word-statement ((codes "0x" ++ hex_digits 8 word) ++ []) ∙ operand_cut ∙ operand_read) in
    ap assembled (line_text-is (codes ".word") (codes "0x" ++ hex_digits 8 word) [])
    ∙ assembled-word (codes ".word" ++ spaced (codes "0x" ++ hex_digits 8 word) []) word line.is_one_line line.is_read

-- ---- any disassembly of a word

-- the disassembly of a word that encodes an instruction assembles to the word: it is the text of the instruction, or else `.word`
assembled-encoding : (word : ℕ) (instr : Instr) (is_determined : Bool) → is_told_by_operands instr ≡ is_determined → word < 2 ^ 32
    → Encodes word instr → assembled (if is_determined then instr_text instr else word_text word) ≡ Ok (word ∷ [])
assembled-encoding word instr true test_is fits_32_bits (is_instr, word_is_encoding) =
    assembled-instr_text instr is_instr test_is ∙ ap (λ encoded. Ok (encoded ∷ [])) word_is_encoding
assembled-encoding word instr false test_is fits_32_bits is_encoding = assembled-word_text word fits_32_bits

-- the disassembly of a word assembles to the word, whether or not the word encodes an instruction
assembled-any : (word : ℕ) (found : Option Instr) → word < 2 ^ 32 → IfSome found (Encodes word)
    → assembled (option_case found (word_text word) (λ instr. if is_told_by_operands instr then instr_text instr else word_text word)) ≡ Ok
    (word ∷ [])
assembled-any word None fits_32_bits is_encoding = assembled-word_text word fits_32_bits
assembled-any word (Some instr) fits_32_bits is_encoding = assembled-encoding word instr (is_told_by_operands instr) refl fits_32_bits is_encoding

-- the disassembly of a word assembles to the word
pub assembled_spelling : (word : ℕ) → word < 2 ^ 32 → IfSome (decoded word) (Encodes word) → assembled (spelling word) ≡ Ok (word ∷ [])
unfolding spelling
assembled_spelling word fits_32_bits is_encoding = assembled-any word (decoded word) fits_32_bits is_encoding
