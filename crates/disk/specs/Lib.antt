-- What the disks mean.
pub mod Disks
pub mod Cuts
pub mod WholeCuts
