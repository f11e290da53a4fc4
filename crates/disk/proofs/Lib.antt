-- Lemmas on images.
pub mod Rewriting
pub mod Chunks
