-- The number of words of a line is its size.
use Rattle.std.proofs.Common.{◌≡◌, ◌<◌, ◌∙◌, sym, ap, arith, lit<, ℕ, Bool, true, false, if◌then◌else◌, List, [], ◌∷◌, length, Option, Some}
use Rattle.std.proofs.Common.{None, Result, Ok, Err}
use Rattle.std.specs.Option.{ok_or}
use Rattle.std.proofs.lemmas.List.{length-map}
use Rattle.rv_word.specs.Cases.{option_case}
use Rattle.rv_encoding.specs.Rows.{word_of}
use Rattle.rv_encoding.specs.declared.instr.Instr.{Instr}
use Rattle.rv_encoding.specs.declared.instr.Instr.TheVariants.{Jal, Branch}
use Rattle.rv_asm.specs.OperandRanges.{jump_offset_of, branch_offset_of}
use Rattle.rv_asm.specs.Program.{Reading, is_short, li_code, statement_size, statement_words, distance, line_size, line_words}
use Rattle.rv_asm.specs.Statements.{◌>>=◌}
use Rattle.rv_asm.specs.declared.statement.Statement.{Statement}
use Rattle.rv_asm.specs.declared.statement.Statement.TheVariants.{Instruction, JumpTo, BranchTo, Li, Word}
use Rattle.rv_asm.specs.declared.fault.AsmFaultKind.{AsmFaultKind}
use Rattle.rv_asm.specs.declared.fault.AsmFaultKind.TheVariants.{UnknownLabel}

-- two values are equal if the results that are Ok with them are equal
ok_same : {A E : Type 0} (x y : A) → (let result : Result A E = Ok x in result ≡ Ok y) → x ≡ y
ok_same x y same_result = cc

-- a statement that makes one word of a number has one word
one_word : (result : Result ℕ AsmFaultKind) (word : ℕ → ℕ) (words : List ℕ) → (result >>= (λ number. Ok (word number ∷ []))) ≡ Ok words
    → length words ≡ 1
one_word (Ok number) word words words_are = sym (ap length (ok_same _ _ words_are))
one_word (Err kind) word words words_are = cc

-- a jump or a branch to a label has one word
jump_word : (target : Result ℕ AsmFaultKind) (offset : ℕ → Result ℕ AsmFaultKind) (word : ℕ → ℕ) (words : List ℕ)
    → (target >>= (λ place. offset place >>= (λ number. Ok (word number ∷ [])))) ≡ Ok words → length words ≡ 1
jump_word (Ok place) offset word words words_are = one_word (offset place) word words words_are
jump_word (Err kind) offset word words words_are = cc

-- a statement has as many words as its size says
length-statement_words : (labels : List ℕ → Option ℕ) (place : ℕ) (statement : Statement) (words : List ℕ)
    → statement_words labels place statement ≡ Ok words
    → length words ≡ statement_size statement
unfolding statement_words statement_size
length-statement_words labels place (Instruction instruction) words statement_words_is = sym (ap length (ok_same _ _ statement_words_is))
length-statement_words labels place (JumpTo rd name) words statement_words_is =
    jump_word (ok_or (labels name) UnknownLabel) (λ target. jump_offset_of (distance place target))
    (λ offset. word_of (Jal rd offset)) words statement_words_is
length-statement_words labels place (BranchTo kind rs1 rs2 name) words statement_words_is =
    jump_word (ok_or (labels name) UnknownLabel) (λ target. branch_offset_of (distance place target))
    (λ offset. word_of (Branch kind rs1 rs2 offset)) words statement_words_is
length-statement_words labels place (Li rd value) words statement_words_is = sym (ap length (ok_same _ _ statement_words_is))
    ∙ length-map (li_code rd value) word_of
length-statement_words labels place (Word word) words statement_words_is = sym (ap length (ok_same _ _ statement_words_is))

-- a line without a statement has no word, and a line with one has as many as its size says
length-optional : (labels : List ℕ → Option ℕ) (place : ℕ) (statement : Option Statement) (words : List ℕ)
    → option_case statement (Ok []) (statement_words labels place) ≡ Ok words → length words ≡ option_case statement 0 statement_size
length-optional labels place None words choice_is = sym (ap length (ok_same _ _ choice_is))
length-optional labels place (Some statement) words choice_is = length-statement_words labels place statement words choice_is

-- a line has as many words as its size says
pub length-line_words : (labels : List ℕ → Option ℕ) (place : ℕ) (line : Reading) (words : List ℕ) → line_words labels place line ≡ Ok words
    → length words ≡ line_size line
length-line_words labels place (Ok line) words line_words_is = length-optional labels place line.statement words line_words_is
length-line_words labels place (Err kind) words line_words_is = cc

-- the code of `li` has at least one instruction, whether the value is short or not
some_code : (is_short_value : Bool) (one two : Instr) (others : List Instr) → 0 < length (if is_short_value then one ∷ [] else two ∷ others)
some_code true one two others = lit< tt
some_code false one two others = omega (arith, length others)

-- every statement has at least one word
pub has_words : (statement : Statement) → 0 < statement_size statement
unfolding statement_size li_code
has_words (Instruction instruction) = lit< tt
has_words (JumpTo rd name) = lit< tt
has_words (BranchTo kind rs1 rs2 name) = lit< tt
has_words (Li rd value) = some_code (is_short value) _ _ _
has_words (Word word) = lit< tt
