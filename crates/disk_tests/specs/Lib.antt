-- What the functions over any disk promise.
pub mod Using
