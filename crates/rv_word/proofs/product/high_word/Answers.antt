-- This file proves obligations of `high_word`, which returns the high word of a product of 64 bits.
use Rattle.std.proofs.Common.{◌≡◌, ◌/◌, ◌^◌, ap, sym, ◌∙◌}
use Rattle.std.specs.Int.{w64, cast_unsigned}
use Rattle.std.proofs.lemmas.Int.{to_z-of_z}
use Rattle.rv_word.specs.Products.{high_word}
use Rattle.rv_word.proofs.ProductLemmas.{high_word_is, IsSignedHighWord-high, high_word-unique}
use Rattle.rv_word.proofs.product.high_word.Goals as goal

-- the result, the upper half of the 64-bit number of the product, is the high word, solves its equation, and is its only solution
pub returns : goal.returns
returns c =
    let number_is : c.cast_unsigned.result ≡ cast_unsigned w64 c.args.product =
    c.cast_unsigned.ensures ∙ ap (cast_unsigned w64) (to_z-of_z w64 c.args.product c.ranges.product) in
    let value : c.cast_unsigned.result / 2 ^ 32 ≡ high_word c.args.product =
    high_word_is c.args.product c.cast_unsigned.result c.ranges.product number_is in
    record {
      value = value;
      equation = IsSignedHighWord-high c.args.product c.cast_unsigned.result c.ranges.product number_is;
      unique = λ word is_word solves. high_word-unique c.args.product word is_word solves ∙ sym value;
    }
