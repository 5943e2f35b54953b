pub mod Walk
pub mod Longest
pub mod Answer
