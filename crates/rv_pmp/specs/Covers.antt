-- The bytes that an entry covers, one byte address at a time: RISC-V Privileged Architecture 20211203, section 3.7.1,
-- Address Matching.
use Rattle.std.specs.Prelude.{ℕ, zero, suc, ◌+◌, ◌*◌, ◌/◌, ◌%◌, ◌^◌, ◌<◌, ◌≤◌, Bool, false, ◌&&◌, ◌==◌, ◌≡◌, ◌↔◌, IsTrue, nat_lt, nat_le, if◌then◌else◌}
use Rattle.rv_pmp.specs.Cfg.{matching_of}
use Rattle.rv_pmp.specs.Entries.{Entries, cfg_of, addr_of, addr_before}
use Rattle.rv_pmp.specs.declared.address_matching.AddressMatching.{AddressMatching}
use Rattle.rv_pmp.specs.declared.address_matching.AddressMatching.TheVariants.{Off, Tor, Na4, Napot}

-- The granularity is 4 bytes (G = 0). A pmpaddr value is an address in units of it, each of its bits is stored, and NA4 can be selected.
abbrev pub granularity : ℕ
granularity = 4

-- `ones_at_end` is the number of trailing ones of a number with `bits` bits
unfoldable pub ones_at_end : ℕ → ℕ → ℕ
ones_at_end zero number = 0
ones_at_end (suc bits) number = if number % 2 == 1 then 1 + ones_at_end bits (number / 2) else 0

-- the size in bytes of the range of a NAPOT entry: 2^(k+3) if its pmpaddr ends in k ones
abbrev pub napot_size : ℕ → ℕ
napot_size addr = 8 * 2 ^ ones_at_end 32 addr

-- whether two byte addresses are in the same naturally aligned block of `size` bytes
abbrev pub is_in_block : ℕ → ℕ → ℕ → Bool
is_in_block size address byte = byte / size == address / size

-- whether a byte address matches, given the pmpaddr value of the entry before, and the entry's own
abbrev pub matches : AddressMatching → ℕ → ℕ → ℕ → Bool
matches Off before addr byte = false
matches Tor before addr byte = nat_le (granularity * before) byte && nat_lt byte (granularity * addr)
matches Na4 before addr byte = byte / granularity == addr
matches Napot before addr byte = is_in_block (napot_size addr) (granularity * addr) byte

-- Whether the entry covers the byte at an address.
unfoldable pub covers : Entries → ℕ → ℕ → Bool
covers entries entry byte = matches (matching_of (cfg_of entries entry)) (addr_before entries entry) (addr_of entries entry) byte

-- the entry covers the bytes from the first address up to the second, and no others
abbrev pub CoversRange : Entries → ℕ → ℕ → ℕ → Type 0
CoversRange entries entry from to = (byte : ℕ) → IsTrue (covers entries entry byte) ↔ ((from ≤ byte) × (byte < to))

-- the entry covers no byte
abbrev pub CoversNothing : Entries → ℕ → Type 0
CoversNothing entries entry = (byte : ℕ) → covers entries entry byte ≡ false
