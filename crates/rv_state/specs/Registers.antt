-- The 32 integer registers, as a list of words whose first element is 0 (RISC-V Unprivileged ISA 20191213, section 2.1).
use Rattle.std.specs.Prelude.{ℕ, ◌==◌, List, slice_index, slice_set, if◌then◌else◌}

-- the word that the register with this number reads
abbrev pub register : List ℕ → ℕ → ℕ
register regs number = slice_index regs number

-- the registers after a write to the register with this number; x0 stays 0
abbrev pub with_register : List ℕ → ℕ → ℕ → List ℕ
with_register regs number value = if number == 0 then regs else slice_set regs number value
