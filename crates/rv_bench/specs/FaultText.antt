-- The line that the program writes for an error of a job. (This project's own program; the text is ASCII, ISO/IEC 646.)
use Rattle.std.specs.Prelude.{ℕ, List, [], ◌++◌, codes, decimal}
use Rattle.rv_asm.specs.Faults.{asm_fault_number}
use Rattle.rv_elf.specs.Faults.{elf_fault_number}
use Rattle.rv_memory.specs.Faults.{ram_fault_number}
use Rattle.rv_streams.specs.declared.fault.BenchFault.{BenchFault}
use Rattle.rv_streams.specs.declared.fault.BenchFault.TheVariants.{Image, Ram, Read, Write, Hex, TooLong, NoMemory, Asm}

-- `fault_text` is the line for an error of a job; an error of the output has none
unfoldable pub fault_text : BenchFault → List ℕ
fault_text (Image fault) = codes "rvbench: image " ++ (decimal (elf_fault_number fault) ++ codes "\n")
fault_text (Ram fault) = codes "rvbench: ram " ++ (decimal (ram_fault_number fault) ++ codes "\n")
fault_text Read = codes "rvbench: read\n"
fault_text Write = []
fault_text Hex = codes "rvbench: hex\n"
fault_text TooLong = codes "rvbench: too long\n"
fault_text NoMemory = codes "rvbench: memory\n"
fault_text (Asm fault) =
    codes "rvbench: line " ++ (decimal fault.line ++ (codes " fault " ++ (decimal (asm_fault_number fault.kind) ++ codes "\n")))
