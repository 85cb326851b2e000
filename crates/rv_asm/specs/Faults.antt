-- The numbers of the assembler's errors. (This project's own.)
use Rattle.std.specs.Prelude.{ℕ}
use Rattle.rv_asm.specs.declared.fault.AsmFaultKind.{AsmFaultKind}
use Rattle.rv_asm.specs.declared.fault.AsmFaultKind.TheVariants.{BadText, UnknownName, BadOperand, OutOfRange, UnknownLabel, LabelTwice, TooLong, NoMemory}

-- `asm_fault_number` is a number for each kind of error, by which errors are compared
abbrev pub asm_fault_number : AsmFaultKind → ℕ
asm_fault_number BadText = 1
asm_fault_number UnknownName = 2
asm_fault_number BadOperand = 3
asm_fault_number OutOfRange = 4
asm_fault_number UnknownLabel = 5
asm_fault_number LabelTwice = 6
asm_fault_number TooLong = 7
asm_fault_number NoMemory = 8
