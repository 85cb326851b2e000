-- This file proves obligations of `mulhsu`, which returns the high word of the product of a signed and an unsigned word.
use Rattle.std.proofs.Common.{pos, w64, ap, sym, subst, ◌∙◌, arith}
use Rattle.std.proofs.lemmas.Int.{to_z_pos}
use Rattle.rv_word.specs.Products.{high_word, IsSignedHighWord}
use Rattle.rv_word.proofs.ProductLemmas.{product-fits_64_bits, product-in_64_bits, signed-in_64_bits}
use Rattle.rv_word.proofs.product.mulhsu.Goals as goal

-- the product of the two values fits in 64 bits, so that it does not overflow
pub overflow_mul-signed : goal.overflow_mul-signed
overflow_mul-signed c =
    let left_is = signed-in_64_bits c.signed.result c.args.left c.ranges.left.fits c.signed.ensures in
    let right_is = to_z_pos w64 c.args.right (omega arith) in
    product-fits_64_bits _ _ c.args.left (pos c.args.right) c.ranges.left.fits left_is right_is (omega arith)

-- the result is the high word of the product, solves the equation of the high word, and is its only solution
pub returns : goal.returns
returns c =
    let left_is = signed-in_64_bits c.signed.result c.args.left c.ranges.left.fits c.signed.ensures in
    let right_is = to_z_pos w64 c.args.right (omega arith) in
    let product_is = product-in_64_bits _ _ c.args.left (pos c.args.right) c.ranges.left.fits left_is right_is (omega arith) in
    record {
      value = c.high_word.ensures.value ∙ ap high_word product_is;
      equation = subst (λ p. IsSignedHighWord p c.high_word.result) product_is c.high_word.ensures.equation;
      unique = λ word fits solves. c.high_word.ensures.unique word fits (subst (λ p. IsSignedHighWord p word) (sym product_is) solves);
    }
