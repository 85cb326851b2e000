-- The output for an image that is disassembled. (This project's own format; the digits are ASCII, ISO/IEC 646.)
use Rattle.std.specs.Prelude.{ℕ, ◌/◌, ◌%◌, ◌==◌, List, length, ◌++◌, codes, map, flat_map, Result, Ok, Err, if◌then◌else◌}
use Rattle.std.specs.Simd.{first_chunks}
use Rattle.rv_word.specs.ByteOrder.{word_of_bytes}
use Rattle.rv_word.specs.Cases.{result_case}
use Rattle.rv_disassembler.specs.Spelling.{spelling}
use Rattle.rv_text.specs.Digits.{hex8}
use Rattle.rv_streams.specs.Image.{image_in}
use Rattle.rv_streams.specs.declared.fault.BenchFault.{BenchFault}
use Rattle.rv_streams.specs.declared.fault.BenchFault.TheVariants.{Hex}

-- `words_of_image` has the words of an image: four bytes each, little-endian
abbrev pub words_of_image : List ℕ → List ℕ
words_of_image image = map word_of_bytes (first_chunks 4 (length image / 4) image)

-- a line shows a word in eight hexadecimal digits, and its disassembly
unfoldable pub dis_line : ℕ → List ℕ
dis_line word = hex8 word ++ codes " " ++ spelling word ++ codes "\n"

-- `disassembly_text` has a line for each word
abbrev pub disassembly_text : List ℕ → List ℕ
disassembly_text words = flat_map dis_line words

-- `dis_of` has the lines of the words, or `Hex` if the bytes are not whole words
abbrev pub dis_of : List ℕ → Result (List ℕ) BenchFault
dis_of image = if length image % 4 == 0 then Ok (disassembly_text (words_of_image image)) else Err Hex

-- `dis_output` has the lines for the image at the start of an input, or the error: of the image's text, or of the number of its bytes
abbrev pub dis_output : List ℕ → Result (List ℕ) BenchFault
dis_output input = result_case (image_in input) dis_of Err
