pub mod Marks
pub mod Lines
pub mod Grammar
pub mod Sheets
