-- The errors of an image that cannot be loaded, in the order of their numbers
pub mod Faults
-- The fields of an ELF32 file, little-endian, by their offsets
pub mod Fields
-- The memory after an image is loaded, byte by byte
pub mod Loaded
-- The addresses that an image may use
pub mod Places
-- The segments to load, and the entry address
pub mod Plans
-- The segments of an image, and their requirements on the file and on the memory
pub mod Segments
