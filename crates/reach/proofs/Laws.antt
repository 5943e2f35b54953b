pub mod Via
pub mod Rows
pub mod Spread
pub mod Search
pub mod Answers
