-- Examples of `decoded`: the instruction that a word encodes, by computation.
use Rattle.std.proofs.Common.{◌≡◌, Some, None, refl}
use Rattle.rv_word.specs.Logic.{by_bits}
use Rattle.rv_encoding.specs.Decoding.{decoded}
use Rattle.rv_encoding.specs.declared.kind.OpImmKind.TheVariants.{Addi}
use Rattle.rv_encoding.specs.declared.instr.Instr.TheVariants.{OpImm, SfenceVma}

-- the word 0xFFF00093 encodes addi x1, x0, -1
decoded-addi : decoded 0xfff00093 ≡ Some (OpImm Addi 1 0 0xfff)
unfolding decoded by_bits
decoded-addi = refl

-- the word 0x12418073 encodes sfence.vma x3, x4, which is in the last row of the listing
decoded-sfence_vma : decoded 0x12418073 ≡ Some (SfenceVma 3 4)
unfolding decoded by_bits
decoded-sfence_vma = refl

-- the word 0 encodes no instruction
decoded-zeros : decoded 0 ≡ None
unfolding decoded by_bits
decoded-zeros = refl
