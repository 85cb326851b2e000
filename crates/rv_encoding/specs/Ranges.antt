-- The ranges of the fields whose lowest bits are always 0 (RISC-V Unprivileged ISA 20191213, section 2.3).
use Rattle.std.specs.Prelude.{◌≡◌, ℕ, ◌%◌, ◌^◌, ◌<◌}

-- an upper immediate is a 32-bit word whose 12 lowest bits are 0
abbrev pub IsUpperImmediate : ℕ → Type 0
IsUpperImmediate word = (word < 2 ^ 32) × (word % 2 ^ 12 ≡ 0)

-- a branch offset has 13 bits, the lowest being 0
abbrev pub IsBranchOffset : ℕ → Type 0
IsBranchOffset bits = (bits < 2 ^ 13) × (bits % 2 ≡ 0)

-- a jump offset has 21 bits, the lowest being 0
abbrev pub IsJumpOffset : ℕ → Type 0
IsJumpOffset bits = (bits < 2 ^ 21) × (bits % 2 ≡ 0)
