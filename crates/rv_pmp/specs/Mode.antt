-- The numbers of the privilege modes: RISC-V Privileged Architecture 20211203, section 1.2, table 1.1.
use Rattle.std.specs.Prelude.{ℕ}
use Rattle.rv_pmp.specs.declared.mode.Mode.{Mode}
use Rattle.rv_pmp.specs.declared.mode.Mode.TheVariants.{U, S, M}

-- `mode_number` is the number of a mode in MPP and in the number of a CSR
abbrev pub mode_number : Mode → ℕ
mode_number U = 0
mode_number S = 1
mode_number M = 3
