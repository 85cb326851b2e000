-- The sixteen entries: RISC-V Privileged Architecture 20211203, section 3.7.1.
use Rattle.std.specs.Prelude.{ℕ, ◌-◌, ◌==◌, ◌≡◌, if◌then◌else◌, List, length, slice_index, replicate}

-- `Entries` has the cfg bytes, and the pmpaddr values (bits 33 to 2 of an address), the lowest entry first
pub record Entries : Type 0 where
  -- the cfg byte of each entry
  pub cfgs : List ℕ
  -- the pmpaddr value of each entry
  pub addrs : List ℕ

-- `cfg_of` is the cfg byte of an entry
abbrev pub cfg_of : Entries → ℕ → ℕ
cfg_of entries entry = slice_index entries.cfgs entry

-- `addr_of` is the pmpaddr value of an entry
abbrev pub addr_of : Entries → ℕ → ℕ
addr_of entries entry = slice_index entries.addrs entry

-- `addr_before` is the pmpaddr value of the entry before this entry, and 0 for the first
abbrev pub addr_before : Entries → ℕ → ℕ
addr_before entries entry = if entry == 0 then 0 else addr_of entries (entry - 1)

-- `reset` has the entries at reset: all off, with 0 as address
abbrev pub reset : Entries
reset = record { cfgs = replicate 16 0; addrs = replicate 16 0 }

-- both lists of the entries have sixteen elements
pub record HasSixteen (entries : Entries) : Type 0 where
  -- there are sixteen cfg bytes
  pub cfgs : length entries.cfgs ≡ 16
  -- there are sixteen pmpaddr values
  pub addrs : length entries.addrs ≡ 16
