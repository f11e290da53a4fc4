pub mod Naming
pub mod Memory
pub mod Fetches
pub mod Soundness
pub mod Unused
