pub mod Numbers
pub mod Machines
pub mod Worlds
pub mod Views
pub mod Histories
