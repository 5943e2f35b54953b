pub mod Ticks
pub mod Reached
pub mod Turns
