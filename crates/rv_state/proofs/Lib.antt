-- Many steps counted at once, with the same result as one by one
pub mod CountedLemmas
-- Words under a mask, bit by bit
pub mod MaskLemmas
-- After a write a register reads the kept bits of the written word
pub mod ReadBackLemmas
-- The word of pending interrupts consists of the software bits and the timer line
pub mod RaisedLemmas
-- The words of mstatus and sstatus have no bit outside their masks, and sstatus is mstatus under its mask
pub mod StatusLemmas
-- Below mode M no write changes the machine's parts
pub mod MachinePartsLemmas
-- Below mode M CSR accesses do not depend on the registers of mode M, the PMP entries or the counters
pub mod BelowMLemmas
-- Examples: names of registers in the listing, by their rows
mod CsrExamples
-- stvec and sepc have legal values after each write
pub mod StoredLemmas
