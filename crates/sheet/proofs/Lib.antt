pub mod Earning
pub mod Telling
pub mod Scoring
pub mod Readback
pub mod Sameness
