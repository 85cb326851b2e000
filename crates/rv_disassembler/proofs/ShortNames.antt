-- The names of all instructions have at most 10 bytes.
use Rattle.std.proofs.Common.{◌≤◌, length, arith}
use Rattle.rv_encoding.specs.Listing.{name_of}
use Rattle.rv_encoding.specs.declared.instr.Instr.{Instr}

-- the name of each instruction has at most ten bytes, which is checked for each name
pub short_name : (instr : Instr) → length (name_of instr) ≤ 10
short_name instr = grind arith
