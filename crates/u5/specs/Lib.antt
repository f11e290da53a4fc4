pub mod Tables
pub mod Operations
pub mod Slots
pub mod Registers
pub mod Words
