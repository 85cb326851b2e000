-- Examples: words with their disassembly.
use Rattle.std.proofs.Common.{◌≡◌, ℕ, List, ◌∷◌, [], map, refl}
use Rattle.std.specs.Prelude.{codes}
use Rattle.std.specs.Fmt.{digits}
use Rattle.rv_word.specs.Logic.{by_bits}
use Rattle.rv_encoding.specs.Decoding.{decoded}
use Rattle.rv_text.specs.Digits.{hex_digits}
use Rattle.rv_disassembler.specs.Spelling.{spelling, instr_text, line_text, word_text}

-- words, and the disassembly of each
abbrev examples : List (ℕ × List ℕ)
examples =
    (0x0ff0000f, codes "fence iorw, iorw")
    ∷ (0x0000000f, codes "fence 0, 0")
    ∷ (0x8330000f, codes ".word 0x8330000f")
    ∷ (0x02009093, codes ".word 0x02009093")
    ∷ (0x12000073, codes "sfence.vma x0, x0")
    ∷ (0xfff08093, codes "addi x1, x1, -1")
    ∷ (0xfe009ee3, codes "bne x1, x0, -4")
    ∷ (0x800000ef, codes "jal x1, -1048576")
    ∷ (0x7ffff06f, codes "jal x0, 1048574")
    ∷ (0x000000b7, codes "lui x1, 0x0")
    ∷ (0xfffff0b7, codes "lui x1, 0xfffff")
    ∷ (0xfe321d23, codes "sh x3, -6(x4)")
    ∷ (0x005fb073, codes "csrrc x0, 0x005, x31")
    ∷ (0x30200073, codes "mret")
    ∷ []

-- each example word has the disassembly beside it
pub examples_hold : map (λ example. spelling example.0) examples ≡ map (λ example. example.1) examples
unfolding spelling instr_text line_text word_text decoded digits hex_digits by_bits
examples_hold = refl
