-- This file proves obligations of `hex`, which returns the `places` last hexadecimal digits of a number, in lower case.
use Rattle.std.proofs.Common.{arith, ◌≡◌, ◌<◌, ◌∙◌, encode_utf8, length, ap}
use Rattle.std.proofs.lemmas.Str.Ascii.{encode_ascii}
use Rattle.rv_text.proofs.HexDigits.{SomeIff-at_some, digit_char-lt, length-hex_digits, hex_digits-start, hex_digits_more, hex_digits-all}
use Rattle.rv_text.proofs.hexadecimal.hex.Goals as goal

-- the text has room for the next digit: each digit is one byte in UTF-8, and fewer than `places` are written
pub push-requires : goal.push-requires
push-requires c =
    let digit = SomeIff-at_some _ _ _ _ c.from_digit.ensures.value c.unwrap.ensures in
    let is_ascii : c.unwrap.result < 128 = rw digit.1 (digit_char-lt _ digit.0) in
    let one_byte : length (encode_utf8 c.unwrap.result) ≡ 1 = ap length (encode_ascii c.unwrap.result is_ascii) in
    let written_bytes : length c.loop-written.text.bytes ≡ c.loop-written.written =
    ap length c.loop-written.invariant ∙ length-hex_digits c.loop-written.written _ in
    (omega arith, omega (arith, one_byte, written_bytes))

-- before the first iteration, the text is empty, and no digit is written
pub loop-written-init : goal.loop-written-init
loop-written-init c = c.new-text.ensures ∙ hex_digits-start _

-- an iteration appends the next digit, so that the text has the first `written + 1` digits of the value
pub loop-written-preserved : goal.loop-written-preserved
loop-written-preserved c =
    let digit = SomeIff-at_some _ _ _ _ c.from_digit.ensures.value c.unwrap.ensures in
    let is_ascii : c.unwrap.result < 128 = rw digit.1 (digit_char-lt _ digit.0) in
    let next_digit = hex_digits_more c.args.value c.args.places c.loop-written.written (omega arith) in
    rw (c.push.ensures.ascii is_ascii, c.loop-written.invariant, digit.1) next_digit

-- the result has the `places` last hexadecimal digits of the value (clause `digits`): after the loop, all of them are written
pub returns-clause-digits : goal.returns-clause-digits
returns-clause-digits c =
    let all_written : c.loop-written.written ≡ c.args.places = omega arith in
    c.loop-written.invariant ∙ rw all_written (hex_digits-all c.args.value c.args.places)

-- the result has `places` bytes (clause `len`)
pub returns-clause-len : goal.returns-clause-len
returns-clause-len c =
    ap length c.loop-written.invariant ∙ length-hex_digits c.loop-written.written _ ∙ omega arith
