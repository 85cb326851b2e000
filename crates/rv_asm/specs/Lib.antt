-- The names of control and status registers in an assembler text . The event counters
pub mod CsrNames
-- The pieces of a line of an assembler text
pub mod Cuts
-- The words that an assembler text denotes
pub mod Denotes
-- The numbers of the assembler's errors
pub mod Faults
-- The sets of accesses that a fence orders
pub mod FenceSets
-- The labels of a text, as a map from names to addresses
pub mod LabelMap
-- The lines at which the assembler may run out of memory
pub mod OutOfMemory
-- The content of a line of an assembler text
pub mod LineReading
-- The state of the assembler's first pass, which reads each line
pub mod Passes
-- The mnemonics: the names of the instructions, and four more of the assembler
pub mod Mnemonics
-- Numbers in an assembler text, in ASCII digits
pub mod Numbers
-- The ranges of numbers in operands, and the fields that they encode
pub mod OperandRanges
-- The operands of a statement (RISC-V Unprivileged ISA 20191213
pub mod Operands
-- The words of an assembler text, or its error
pub mod Program
-- The names of the integer registers
pub mod RegisterNames
-- The statement of a mnemonic and its operands . The forms of all operands are checked before the range of any
pub mod Statements
-- Lookup of a name in a table
pub mod Tables
