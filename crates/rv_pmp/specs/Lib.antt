-- The numbers of the privilege modes: RISC-V Privileged Architecture 20211203, section 1.2, table 1.1
pub mod Mode
-- The fields of a cfg byte: RISC-V Privileged Architecture 20211203, section 3.7.1
pub mod Cfg
-- The sixteen entries: RISC-V Privileged Architecture 20211203, section 3.7.1
pub mod Entries
-- The bytes that an entry covers, one byte address at a time
pub mod Covers
-- Writes of entries, and the locks that make them ignored
pub mod Locks
-- The verdict of the PMP entries on an access, by the addresses of its bytes
pub mod Verdicts
-- The meaning of each verdict, byte by byte . The access has `count` bytes from an address on
pub mod Justified
-- The caches of the PMP entries
pub mod Cache
