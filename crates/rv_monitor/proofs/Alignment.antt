-- Lemmas about addresses that are multiples of 4, and about addresses that are rounded down to a multiple of 4.
use Rattle.std.proofs.Common.{◌≡◌, ℕ, arith}
use Rattle.std.specs.Prelude.{◌%◌}
use Rattle.rv_monitor.specs.Prelude.{aligned_to_4, sum_of}

-- an address that is rounded down to a multiple of 4 twice is the address that is rounded down once
pub aligned_twice : (address : ℕ) → aligned_to_4 (aligned_to_4 address) ≡ aligned_to_4 address
aligned_twice address = omega arith

-- an address that is rounded down to a multiple of 4 is a multiple of 4
pub aligned_is_multiple : (address : ℕ) → aligned_to_4 address % 4 ≡ 0
aligned_is_multiple address = omega arith

-- the address after an aligned instruction is aligned
pub next_is_aligned : (pc : ℕ) → aligned_to_4 (sum_of (aligned_to_4 pc) 4) ≡ sum_of (aligned_to_4 pc) 4
next_is_aligned pc = omega arith

-- the address after an instruction at a multiple of 4 is a multiple of 4
pub next_is_multiple : (pc : ℕ) → pc % 4 ≡ 0 → sum_of pc 4 % 4 ≡ 0
next_is_multiple pc aligned = omega arith
