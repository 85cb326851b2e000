-- This file has examples: lines and images with their results.
use Rattle.std.proofs.Common.{◌≡◌, [], ◌∷◌, codes, Ok, Err, refl}
use Rattle.rv_streams.specs.declared.fault.BenchFault.TheVariants.{Hex}
use Rattle.rv_text.specs.GoodLines.{is_text}
use Rattle.rv_text.specs.Words.{words_of}
use Rattle.rv_text.specs.Lines.{lines_of}
use Rattle.rv_streams.specs.Image.{bytes_of_digits, image_in}
use Rattle.rv_streams.specs.Separator.{line_word, after_separator}

-- LF ends a line, and one CR before it is removed
lines_of-example : lines_of (codes "a\r\n\nb\rc\nd\r") ≡ codes "a" ∷ [] ∷ codes "b\rc" ∷ codes "d\r" ∷ []
lines_of-example = refl

-- the image has the bytes of the two lines before the separator
image_in-example : image_in (codes "93 \r\n\n00F0ff\n--\nstep 1\n") ≡ Ok (147 ∷ 0 ∷ 240 ∷ 255 ∷ [])
unfolding line_word words_of is_text bytes_of_digits
image_in-example = refl

-- the script is the text after the separator
after_separator-example : after_separator (codes "93 \r\n\n00F0ff\n--\nstep 1\n") ≡ codes "step 1\n"
unfolding line_word words_of is_text bytes_of_digits
after_separator-example = refl

-- a line with one digit is no hexadecimal line
image_in-faulty_example : image_in (codes "93\n0\n") ≡ Err Hex
unfolding line_word words_of is_text bytes_of_digits
image_in-faulty_example = refl
