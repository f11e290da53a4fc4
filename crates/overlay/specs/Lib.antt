-- What an overlay means.
pub mod Entries
pub mod Layers
pub mod WholeLayers
