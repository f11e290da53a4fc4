-- Lemmas on tables and on what lies under them.
pub mod Rules
pub mod Lookups
pub mod Covers
