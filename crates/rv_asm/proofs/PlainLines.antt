-- A line of pieces, blanks and commas is a single well-formed line without a comment or a label, and has only a statement.
use Rattle.std.proofs.Common.{◌≡◌, ℕ, suc, ◌≤◌, Bool, true, false, List, [], ◌∷◌, length, Some, None, Ok, refl, ap, arith}
use Rattle.std.specs.Prelude.{◌==◌, ◌||◌, nat_lt}
use Rattle.std.specs.List.{list_all, position_or_len}
use Rattle.std.proofs.Math.Seq.{take-length}
use Rattle.std.proofs.lemmas.Bool.{and_parts, and_from, false_from_ne_true}
use Rattle.std.proofs.lemmas.Bool.Decides.{nat_tests}
use Rattle.rv_encoding.specs.Rows.{word_of}
use Rattle.rv_encoding.specs.declared.instr.Instr.{Instr}
use Rattle.rv_asm.specs.Cuts.{before_comment, label_text, statement_text, colon_place}
use Rattle.rv_text.specs.Characters.{carriage_return, colon, comma, line_feed, number_sign, space}
use Rattle.rv_text.specs.Lines.{lines_of, onto_first}
use Rattle.rv_text.specs.GoodLines.{max_line, is_text, is_good_line}
use Rattle.rv_asm.specs.LineReading.{line_read}
use Rattle.rv_asm.specs.Statements.{statement_at}
use Rattle.rv_asm.specs.Program.{assembled, statement_size, statement_words}
use Rattle.rv_asm.specs.declared.statement.Statement.{Statement}
use Rattle.rv_asm.specs.declared.statement.Statement.TheVariants.{Instruction, Word}
use Rattle.rv_asm.proofs.Plain.{is_plain, after_blanks-start}

-- `is_line_byte` is the test of a byte of a line: a plain byte, a comma (44) or a space (32)
abbrev pub is_line_byte : ℕ → Bool
is_line_byte byte = is_plain byte || byte == comma || byte == space

-- a byte of a line is printable
line_byte-text : (byte : ℕ) → is_line_byte byte ≡ true → is_text byte ≡ true
unfolding is_text
line_byte-text byte is_in_line = grind (arith, nat_tests)

-- a byte of a line differs from each byte that is no byte of a line
line_byte-other : (byte other : ℕ) → is_line_byte other ≡ false → is_line_byte byte ≡ true → (byte == other) ≡ false
line_byte-other byte other other_not_in_line is_in_line = false_from_ne_true (byte == other)
    (λ test_holds. cannot_equal (equal byte other test_holds))
  where
    -- two numbers are equal if the test of equality is true
    equal : (x y : ℕ) → (x == y) ≡ true → x ≡ y
    equal x y test_holds = grind (arith, nat_tests)

    -- a byte of a line is not the byte `other`, which is no byte of a line
    cannot_equal : byte ≡ other → ⊥
    cannot_equal same_byte = grind (arith, nat_tests, same_byte, other_not_in_line, is_in_line)

-- the bytes of a line are printable
are_text : (line : List ℕ) → list_all is_line_byte line ≡ true → list_all is_text line ≡ true
are_text [] are_line_bytes = refl
are_text (byte ∷ line) are_line_bytes =
    let (byte_is_in_line, others_are_in_line) = and_parts (is_line_byte byte) (list_all is_line_byte line) are_line_bytes in
    and_from _ _ (line_byte-text byte byte_is_in_line) (are_text line others_are_in_line)

-- ---- one line

-- a text of bytes of a line is one line, since it has no line feed (10) and no carriage return (13)
pub one_line : (byte : ℕ) (line : List ℕ) → list_all is_line_byte (byte ∷ line) ≡ true → lines_of (byte ∷ line) ≡ (byte ∷ line) ∷ []
one_line byte [] are_line_bytes =
    let (byte_is_in_line, no_others) = and_parts (is_line_byte byte) true are_line_bytes in
    let no_feed = line_byte-other byte line_feed refl byte_is_in_line in
    let no_return = line_byte-other byte carriage_return refl byte_is_in_line in
    rw (no_feed, no_return) refl
one_line byte (next ∷ line) are_line_bytes =
    let (byte_is_in_line, others_are_in_line) = and_parts (is_line_byte byte) (list_all is_line_byte (next ∷ line)) are_line_bytes in
    let no_feed = line_byte-other byte line_feed refl byte_is_in_line in
    let no_return = line_byte-other byte carriage_return refl byte_is_in_line in
    rw (no_feed, no_return) (ap (onto_first byte) (one_line next line others_are_in_line))

-- ---- no comment, and no label

-- a byte that is no byte of a line is not found in a line
none_found : (other : ℕ) (line : List ℕ) → ((byte : ℕ) → is_line_byte byte ≡ true → (byte == other) ≡ false) → list_all is_line_byte line ≡ true
    → position_or_len (λ byte. byte == other) line ≡ length line
none_found other [] differs are_line_bytes = refl
none_found other (byte ∷ line) differs are_line_bytes =
    let (byte_is_in_line, others_are_in_line) = and_parts (is_line_byte byte) (list_all is_line_byte line) are_line_bytes in
    let not_first = differs byte byte_is_in_line in
    rw not_first (omega (arith, none_found other line differs others_are_in_line))

-- a line has no comment, since it has no `#` (35)
uncommented : (line : List ℕ) → list_all is_line_byte line ≡ true → before_comment line ≡ line
uncommented line are_line_bytes =
    let no_hash = none_found number_sign line (λ byte. line_byte-other byte number_sign refl) are_line_bytes in
    rw no_hash (take-length line)

-- a line has no colon (58)
no_colon : (line : List ℕ) → list_all is_line_byte line ≡ true → nat_lt (colon_place line) (length line) ≡ false
no_colon line are_line_bytes =
    let not_found = none_found colon line (λ byte. line_byte-other byte colon refl) are_line_bytes in
    grind (arith, nat_tests, not_found)

-- a line has no label, since it has no colon
no_label : (line : List ℕ) → list_all is_line_byte line ≡ true → label_text line ≡ None
unfolding label_text
no_label line are_line_bytes = let no_colon_in_line = no_colon line are_line_bytes in rw no_colon_in_line refl

-- a line that begins with a plain byte is a statement as a whole
whole_statement : (byte : ℕ) (line : List ℕ) → is_plain byte ≡ true → list_all is_line_byte (byte ∷ line) ≡ true
    → statement_text (byte ∷ line) ≡ byte ∷ line
unfolding statement_text
whole_statement byte line is_plain_byte are_line_bytes = let no_colon_in_line = no_colon (byte ∷ line) are_line_bytes in
    rw no_colon_in_line (after_blanks-start byte line is_plain_byte)

-- ---- the statement of the line

-- a line of at most `max_line` bytes is well formed
good_line : (line : List ℕ) → length line ≤ max_line → list_all is_line_byte line ≡ true → is_good_line line ≡ true
good_line line short are_line_bytes = grind (arith, nat_tests, are_text line are_line_bytes)

-- a line that begins with a plain byte, and from which `statement_at` reads a statement, has no label and this statement
pub line_at-plain : (byte : ℕ) (line : List ℕ) (statement : Statement) → is_plain byte ≡ true → list_all is_line_byte (byte ∷ line) ≡ true
    → length (byte ∷ line) ≤ max_line → statement_at (byte ∷ line) ≡ Ok statement
    → line_read (byte ∷ line) ≡ Ok (record { label = None; statement = Some statement })
unfolding line_read
line_at-plain byte line statement is_plain_byte are_line_bytes short statement_is =
    let is_good = good_line (byte ∷ line) short are_line_bytes in
    let no_comment = uncommented (byte ∷ line) are_line_bytes in
    let no_label_in_line = no_label (byte ∷ line) are_line_bytes in
    let is_statement = whole_statement byte line is_plain_byte are_line_bytes in
    let not_empty : (suc (length line) == 0) ≡ false = grind (arith, nat_tests) in
    rw (is_good, no_comment, no_label_in_line, is_statement, statement_is, not_empty) refl

-- ---- the words of the line

-- a text of one line with an instruction assembles to the word of the instruction
pub assembled-instruction : (text : List ℕ) (instr : Instr) → lines_of text ≡ text ∷ []
    → line_read text ≡ Ok (record { label = None; statement = Some (Instruction instr) }) → assembled text ≡ Ok (word_of instr ∷ [])
unfolding assembled statement_size statement_words
assembled-instruction text instr is_one_line is_read = rw is_one_line (rw is_read refl)

-- a text of one line with `.word` assembles to the word that it names
pub assembled-word : (text : List ℕ) (word : ℕ) → lines_of text ≡ text ∷ []
    → line_read text ≡ Ok (record { label = None; statement = Some (Word word) }) → assembled text ≡ Ok (word ∷ [])
unfolding assembled statement_size statement_words
assembled-word text word is_one_line is_read = rw is_one_line (rw is_read refl)
