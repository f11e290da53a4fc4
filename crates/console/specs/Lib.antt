-- What the consoles mean.
pub mod Consoles
pub mod Queues
pub mod Kinds
