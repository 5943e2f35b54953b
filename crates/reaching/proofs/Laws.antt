pub mod Lines
pub mod Words
pub mod Answer
pub mod Reading
