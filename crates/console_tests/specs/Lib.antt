-- What the functions over any console promise.
pub mod Draining
