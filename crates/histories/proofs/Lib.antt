pub mod Recording
pub mod Example
