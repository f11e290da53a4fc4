-- Lemmas on consoles of any kind.
pub mod Pulls
