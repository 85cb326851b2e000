-- This file proves obligations of `sext`, which sign-extends the low `width` bits of `value` to 32 bits.
use Rattle.std.proofs.Common.{◌≡◌, ◌-◌, ◌^◌, ap, ◌∙◌, arith, rules}
use Rattle.std.specs.Prelude.{FitsSigned}
use Rattle.std.specs.Int.{w32, cast_unsigned}
use Rattle.std.specs.Int.Signed.{shr_z, mag_shr}
use Rattle.std.proofs.lemmas.Int.{to_z-of_z}
use Rattle.rv_word.specs.Word.{signed}
use Rattle.rv_word.specs.BitFields.{sign_extended}
use Rattle.rv_word.proofs.BitFieldLemmas.{sign_extended_by_shifts, signed-sign_extended}
use Rattle.rv_word.proofs.bit_field.sext.Goals as goal

-- the result is the sign extension of the low `width` bits, and has their signed value: a left shift and an arithmetic right shift compute it
pub returns : goal.returns
returns c =
    let width = c.args.width in
    let factor = 2 ^ (32 - width) in
    let fits_i32 : FitsSigned w32 c.cast_signed.result = search rules in
    let shifted_fits_i32 : FitsSigned w32 (shr_z c.cast_signed.result factor) =
    record { sfits = omega (arith, mag_shr c.cast_signed.result factor, fits_i32) } in
    let word_is : c.cast_unsigned.result ≡ cast_unsigned w32 (shr_z c.cast_signed.result factor) =
    simp to_z-of_z at c.cast_unsigned.ensures in
    let is_sign_extension : c.cast_unsigned.result ≡ sign_extended c.args.value width =
    word_is
    ∙ ap (λ z. cast_unsigned w32 (shr_z z factor)) c.cast_signed.ensures
    ∙ sign_extended_by_shifts c.args.value width c.requires.positive c.requires.within in
    record {
      value = is_sign_extension;
      same_sign = ap signed is_sign_extension ∙ signed-sign_extended c.args.value width c.requires.positive c.requires.within;
    }
