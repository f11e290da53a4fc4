pub mod Faults
pub mod Numerals
pub mod Pieces
pub mod Readers
