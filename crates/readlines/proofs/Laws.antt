pub mod Answers
pub mod Lines
pub mod Run
pub mod Step
