-- The 32 integer registers, as a list of words whose first element is 0
pub mod Registers
-- The bits that a register keeps of a written word, and aligned addresses
pub mod Bits
-- The codes of the causes in mcause
pub mod Causes
-- The numbers of the errors of an access to a control and status register, in the order in which they are checked
pub mod CsrFaults
-- The fields of mstatus and sstatus; every bit outside these fields reads 0 and ignores writes
pub mod Mstatus
-- The state of the control and status registers
pub mod CsrState
-- The 64-bit counters, their halves, and the increment of a step
pub mod Counters
-- The pending interrupts, and the one that is taken; no interrupt is delegated
pub mod Interrupts
-- The representation of the counters and of the pending interrupts in the code
pub mod Cache
-- Trap entry and the two returns
pub mod Traps
-- Rows of the table of control and status registers
pub mod CsrRows
-- The table of control and status registers
pub mod CsrTable
-- Properties of the table and of traps
pub mod Laws
-- The registers of mode S as one value
pub mod SContexts
-- The machine's parts
pub mod MachineParts
-- The control and status registers after a mutable borrow of their PMP entries ends
pub mod Lending
-- The registers that software below mode M can read
pub mod GuestCsrs
