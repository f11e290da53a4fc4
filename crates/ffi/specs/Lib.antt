-- What the library promises to its callers.
pub mod Numbers
pub mod Replies
pub mod Kinds
pub mod Parts
pub mod Calls
pub mod Serves
pub mod Given
