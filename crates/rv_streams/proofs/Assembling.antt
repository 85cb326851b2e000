-- The output for an assembler text: the lines of its words, the error of the text, or `TooLong`.
use Rattle.std.proofs.Common.{◌≡◌, ℕ, ◌<◌, ◌≤◌, true, false, nat_lt, List, length, Ok, Err, refl, arith}
use Rattle.std.proofs.lemmas.Bool.Decides.{nat_tests}
use Rattle.rv_asm.specs.Program.{assembled}
use Rattle.rv_asm.specs.declared.fault.AsmFault.{AsmFault}
use Rattle.rv_streams.specs.AssemblyText.{asm_text, asm_output}
use Rattle.rv_streams.specs.declared.fault.BenchFault.TheVariants.{TooLong, Asm}

-- `text_limit` is the maximal size of an assembler text in bytes: 4 MiB
abbrev pub text_limit : ℕ
text_limit = 4194304

-- a text of at most 4 MiB that is assembled has the lines of its words as output
pub asm_output-ok : (text words : List ℕ) → length text ≤ text_limit → assembled text ≡ Ok words → asm_output text ≡ Ok (asm_text words)
unfolding asm_output
asm_output-ok text words within_limit assembled_is =
    let not_above : nat_lt text_limit (length text) ≡ false = grind (arith, nat_tests) in rw (not_above, assembled_is) refl

-- a text of at most 4 MiB with an error has the error as output
pub asm_output-fault : (text : List ℕ) (fault : AsmFault) → length text ≤ text_limit → assembled text ≡ Err fault
    → asm_output text ≡ Err (Asm fault)
unfolding asm_output
asm_output-fault text fault within_limit assembled_is =
    let not_above : nat_lt text_limit (length text) ≡ false = grind (arith, nat_tests) in rw (not_above, assembled_is) refl

-- a text of more than 4 MiB is too long
pub asm_output-too_long : (text : List ℕ) → text_limit < length text → asm_output text ≡ Err TooLong
unfolding asm_output
asm_output-too_long text exceeds_limit =
    let is_above : nat_lt text_limit (length text) ≡ true = grind (arith, nat_tests) in rw is_above refl
