-- The widths of accesses to memory, in bytes (RISC-V Unprivileged ISA 20191213, section 2.6).
use Rattle.std.specs.Prelude.{ℕ}
use Rattle.rv_word.specs.declared.width.Width.{Width}
use Rattle.rv_word.specs.declared.width.Width.TheVariants.{Byte, Half, Word}

-- `bytes_in` is the number of bytes of an access of this width
abbrev pub bytes_in : Width → ℕ
bytes_in Byte = 1
bytes_in Half = 2
bytes_in Word = 4
