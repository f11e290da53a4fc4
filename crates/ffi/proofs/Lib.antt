-- Lemmas that several proofs share.
pub mod Parting
pub mod Making
