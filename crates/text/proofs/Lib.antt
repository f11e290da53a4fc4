pub mod Cuts
pub mod Joins
pub mod Numbers
pub mod Spelling
pub mod Placing
