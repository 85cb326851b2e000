-- The lines that show registers: one more line, and the length of a line.
use Rattle.std.proofs.Common.{◌≡◌, ℕ, zero, suc, ◌+◌, ◌-◌, ◌*◌, ◌<◌, ◌≤◌, List, [], ◌∷◌, ◌++◌, length, ap, sym, ◌∙◌, arith, add-one, length-append}
use Rattle.std.specs.Prelude.{decimal}
use Rattle.std.proofs.lemmas.Fmt.{length-decimal-le}
use Rattle.rv_text.proofs.HexDigits.{length-hex_digits}
use Rattle.rv_debug.proofs.Prelude.{flat_map, flat_map_more, range_with_len, register_text}

-- a range with one more number is the range followed by `last`, the number after the range
range_with_len-suc : (start count last : ℕ) → start + count ≡ last → range_with_len start (suc count) ≡ range_with_len start count ++ last ∷ []
range_with_len-suc start zero last last_is = ap (λ number. number ∷ []) (omega arith)
range_with_len-suc start (suc count) last last_is = ap (λ tail. start ∷ tail) (range_with_len-suc (start + 1) count last (omega arith))

-- the texts of the numbers from 0 to a number are the texts of the lower numbers, followed by the text of the number
pub flat_map-range_more : (text_of : ℕ → List ℕ) (old : List ℕ) (number : ℕ)
    → (old ++ flat_map text_of (range_with_len 0 number)) ++ text_of number ≡ old ++ flat_map text_of (range_with_len 0 (number + 1))
flat_map-range_more text_of old number =
    let one_more : range_with_len 0 (number + 1) ≡ range_with_len 0 number ++ number ∷ [] =
    rw add-one (range_with_len-suc 0 number number (omega arith)) in
    flat_map_more text_of old (range_with_len 0 number) number ∙ ap (λ numbers. old ++ flat_map text_of numbers) (sym one_more)

-- The line of a register is at most 12 bytes long if its number has one digit, and 13 if it has two. The sum counts 12 bytes for each line, and one
-- more for each line from x10 on.
pub length-register_text : (number value : ℕ) → number < 100
    → 12 * number + (number - 10) + length (register_text number value) ≤ 12 * (number + 1) + (number + 1 - 10)
unfolding register_text
length-register_text number value two_digits =
    let at_most_one : number < 10 → length (decimal number) ≤ 1 = λ one_digit. length-decimal-le 1 number (omega arith) one_digit (omega arith) in
    let at_most_two = length-decimal-le 2 number (omega arith) two_digits (omega arith) in
    simp length-append (grind (arith, at_most_one, at_most_two, length-hex_digits 8 value))
