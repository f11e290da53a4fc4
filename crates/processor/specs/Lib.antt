pub mod Names
pub mod Widths
pub mod Words
pub mod Machine
pub mod Effects
pub mod Requests
pub mod Laws
