-- The table of known values.
pub mod Table
