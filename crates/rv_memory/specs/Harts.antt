-- The number of harts in a machine. (RISC-V Unprivileged ISA 20191213, section 1.1, allows one hart or more on a platform. One or two is this
-- project's profile.)
use Rattle.std.specs.Prelude.{ℕ, ◌==◌, Option, Some, None, if◌then◌else◌}
use Rattle.rv_memory.specs.declared.harts.Harts.{Harts}
use Rattle.rv_memory.specs.declared.harts.Harts.TheVariants.{One, Two}

-- `number_of_harts` is the number of harts of a machine: one or two
abbrev pub number_of_harts : Harts → ℕ
number_of_harts One = 1
number_of_harts Two = 2

-- `counted_harts` is the value for `count` harts, if a machine may have as many
abbrev pub counted_harts : ℕ → Option Harts
counted_harts count = if count == 1 then Some One else (if count == 2 then Some Two else None)
