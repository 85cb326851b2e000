-- The bytes that a call of a device moves, and the counts of calls
pub mod Device
-- The state of a device compared with an earlier one, by its counts of calls
pub mod Calls
-- Writing a text to a sink, and the number of bytes that were read
pub mod Transfer
-- Reading the bytes of one line
pub mod LineText
-- The line `--`, which separates an image from a script, and one script from another
pub mod Separator
-- The lines of a script, and its end
pub mod Script
-- The bytes that the lines of a source have not yet returned, and the end of the lines
pub mod Unread
-- The remaining bytes of a source in memory, and the bytes taken by a sink in memory
pub mod MemoryStreams
-- The log of a device after each kind of call
pub mod CallLog
-- The remaining bytes of a source that reads ahead from another
pub mod Buffered
-- The numbers of the errors
pub mod Faults
-- The bytes that a sink holds for another sink
pub mod Held
-- The image in a text of hexadecimal lines
pub mod Image
-- The result of reading an image, and its effects in each case
pub mod ReadImage
-- The output for an assembler text: the bytes of its words
pub mod AssemblyText
-- The result of assembling a source, and its effects in each case
pub mod Assemble
-- The output for an image that is disassembled
pub mod DisassemblyText
-- The result of disassembling an image, and its effects in each case
pub mod Disassemble
