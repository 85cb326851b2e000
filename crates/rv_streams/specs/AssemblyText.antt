-- The output for an assembler text: the bytes of its words. (This project's own format; the digits are ASCII, ISO/IEC 646.)
use Rattle.std.specs.Prelude.{ℕ, nat_lt, List, length, ◌++◌, codes, flat_map, Result, Ok, Err, if◌then◌else◌}
use Rattle.rv_word.specs.ByteOrder.{byte_of}
use Rattle.rv_word.specs.Cases.{result_case}
use Rattle.rv_asm.specs.Program.{assembled}
use Rattle.rv_text.specs.Digits.{hex2}
use Rattle.rv_streams.specs.declared.fault.BenchFault.{BenchFault}
use Rattle.rv_streams.specs.declared.fault.BenchFault.TheVariants.{TooLong, Asm}

-- `word_line` has the four bytes of a word, little-endian, in two hexadecimal digits each
unfoldable pub word_line : ℕ → List ℕ
word_line word = hex2 (byte_of word 0) ++ hex2 (byte_of word 1) ++ hex2 (byte_of word 2) ++ hex2 (byte_of word 3) ++ codes "\n"

-- `asm_text` has a line for each word
abbrev pub asm_text : List ℕ → List ℕ
asm_text words = flat_map word_line words

-- the lines of the words of a text, or its error; `TooLong`, for more than 4 MiB (4194304 bytes), has precedence over any error of a line
unfoldable pub asm_output : List ℕ → Result (List ℕ) BenchFault
asm_output text =
    if nat_lt 4194304 (length text) then Err TooLong
    else result_case (assembled text) (λ words. Ok (asm_text words)) (λ fault. Err (Asm fault))
