-- This file proves obligations of `mulh`, which returns the high word of the product of two signed words.
use Rattle.std.proofs.Common.{ap, sym, subst, ◌∙◌}
use Rattle.rv_word.specs.Products.{high_word, IsSignedHighWord}
use Rattle.rv_word.specs.Word.{signed}
use Rattle.rv_word.proofs.ProductLemmas.{product-fits_64_bits, product-in_64_bits, signed-in_64_bits, signed-magnitude}
use Rattle.rv_word.proofs.product.mulh.Goals as goal

-- the product of the two values fits in 64 bits, so that it does not overflow
pub overflow_mul-signed : goal.overflow_mul-signed
overflow_mul-signed c =
    let left_is = signed-in_64_bits c.signed.result c.args.left c.ranges.left.fits c.signed.ensures in
    let right_is = signed-in_64_bits c.signed-2.result c.args.right c.ranges.right.fits c.signed-2.ensures in
    let magnitude_is = signed-magnitude c.args.right c.ranges.right.fits in
    product-fits_64_bits _ _ c.args.left (signed c.args.right) c.ranges.left.fits left_is right_is magnitude_is

-- the result is the high word of the product, solves the equation of the high word, and is its only solution
pub returns : goal.returns
returns c =
    let left_is = signed-in_64_bits c.signed.result c.args.left c.ranges.left.fits c.signed.ensures in
    let right_is = signed-in_64_bits c.signed-2.result c.args.right c.ranges.right.fits c.signed-2.ensures in
    let magnitude_is = signed-magnitude c.args.right c.ranges.right.fits in
    let product_is = product-in_64_bits _ _ c.args.left (signed c.args.right) c.ranges.left.fits left_is right_is magnitude_is in
    record {
      value = c.high_word.ensures.value ∙ ap high_word product_is;
      equation = subst (λ p. IsSignedHighWord p c.high_word.result) product_is c.high_word.ensures.equation;
      unique = λ word fits solves. c.high_word.ensures.unique word fits (subst (λ p. IsSignedHighWord p word) (sym product_is) solves);
    }
