-- The sheet of a text.
pub mod Lines
