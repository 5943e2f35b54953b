pub mod Rows
pub mod Reading
