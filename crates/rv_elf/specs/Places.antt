-- The addresses that an image may use: those in RAM, except, with a monitor, the range that the monitor reserves for itself. (Keystone, EuroSys
-- 2020, in this project's profile. No public standard defines the range.)
use Rattle.std.specs.Prelude.{ℕ, ◌+◌, Bool, not, ◌&&◌, nat_le, if◌then◌else◌}
use Rattle.rv_memory.specs.Blocks.{has, meets, monitor_block}
use Rattle.rv_memory.specs.Memory.{ram_base}

-- an address is reserved if there is a monitor, and the monitor reserves the address for itself
abbrev pub is_reserved : Bool → ℕ → Bool
is_reserved monitored address = monitored && has monitor_block address

-- one of `count` addresses from this address on is reserved
unfoldable pub meets_reserved : Bool → ℕ → ℕ → Bool
meets_reserved monitored address count = monitored && meets monitor_block (record { base = address; size = count })

-- `first_address` is the first address that an image may use
abbrev pub first_address : Bool → ℕ
first_address monitored = if monitored then monitor_block.base + monitor_block.size else ram_base

-- `count` bytes from an address on are inside a RAM of this size
abbrev pub lies_inside : ℕ → ℕ → ℕ → Bool
lies_inside ram_size address count = nat_le ram_base address && nat_le (address + count) (ram_base + ram_size)

-- an image may use `count` bytes from an address on: they are inside RAM, and none is reserved
abbrev pub has_place : ℕ → Bool → ℕ → ℕ → Bool
has_place ram_size monitored address count = lies_inside ram_size address count && not (meets_reserved monitored address count)
