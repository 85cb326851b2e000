-- The numbers of the errors. (This project's own.)
use Rattle.std.specs.Prelude.{ℕ}
use Rattle.rv_memory.specs.declared.access_fault.AccessFault.{AccessFault}
use Rattle.rv_memory.specs.declared.access_fault.AccessFault.TheVariants.{Outside, Refused}
use Rattle.rv_memory.specs.declared.ram_fault.RamFault.{RamFault}
use Rattle.rv_memory.specs.declared.ram_fault.RamFault.TheVariants.{BadSize, NoMemory}

-- `ram_fault_number` is a number for each kind of RAM error, by which errors are compared
abbrev pub ram_fault_number : RamFault → ℕ
ram_fault_number BadSize = 1
ram_fault_number (NoMemory refused) = 2

-- `access_fault_number` is a number for each kind of access error, by which errors are compared
abbrev pub access_fault_number : AccessFault → ℕ
access_fault_number Outside = 1
access_fault_number (Refused verdict) = 2
