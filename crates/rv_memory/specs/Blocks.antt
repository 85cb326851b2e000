-- Blocks of addresses, given by a first address and a number of bytes, and the block that the monitor reserves for itself. (Keystone, EuroSys
-- 2020, in this project's profile. No public standard defines the range.)
use Rattle.std.specs.Prelude.{ℕ, ◌+◌, Bool, ◌&&◌, nat_le, nat_lt}
use Rattle.rv_memory.specs.declared.block.Block.{Block}

-- `no_block` is the empty block at address 0
abbrev pub no_block : Block
no_block = record { base = 0; size = 0 }

-- `monitor_block` is the range that the monitor reserves for itself
abbrev pub monitor_block : Block
monitor_block = record { base = 0x80000000; size = 0x10000 }

-- `has` states whether a byte address is in a block
abbrev pub has : Block → ℕ → Bool
has block byte = nat_le block.base byte && nat_lt byte (block.base + block.size)

-- `meets` states whether two blocks share a byte
abbrev pub meets : Block → Block → Bool
meets first second =
    nat_lt 0 first.size && (nat_lt 0 second.size && (nat_lt first.base (second.base + second.size) && nat_lt second.base (first.base + first.size)))
