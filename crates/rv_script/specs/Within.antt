-- Numbers in a range. (Not defined by a standard.)
use Rattle.std.specs.Prelude.{ℕ, ◌&&◌, Option, Some, None, nat_le, if◌then◌else◌}

-- `within` is the number if it is in the range from low to high, which includes both, and else `None`
abbrev pub within : ℕ → ℕ → ℕ → Option ℕ
within low high n = if nat_le low n && nat_le n high then Some n else None
