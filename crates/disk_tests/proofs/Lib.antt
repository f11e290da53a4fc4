-- Lemmas on any disk.
pub mod Lending
