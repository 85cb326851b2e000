-- The numbers of the slots of the table of enclaves. (Keystone, EuroSys 2020, in this project's profile.)
use Rattle.std.specs.Prelude.{ℕ, nat_lt, Option, Some, None, if◌then◌else◌}

-- the number of slots, whose numbers are 0 to 12
abbrev pub slot_count : ℕ
slot_count = 13

-- the slot with a number, or None if no slot has this number
abbrev pub slot_numbered : ℕ → Option ℕ
slot_numbered number = if nat_lt number slot_count then Some number else None
