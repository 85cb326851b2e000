-- Representations of state in the code. (Not defined by the manual. No public contract names them.)
pub mod Kept
