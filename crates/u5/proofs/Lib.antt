pub mod Tables
pub mod Encodings
pub mod Operands
