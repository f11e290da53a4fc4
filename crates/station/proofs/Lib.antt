pub mod Machines
pub mod Running
pub mod Starting
pub mod Bytes
pub mod Trace
pub mod Reach
pub mod Tallying
pub mod Agreement
