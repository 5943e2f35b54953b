pub mod Bits
pub mod Ticks
pub mod Outcomes
pub mod Pends
