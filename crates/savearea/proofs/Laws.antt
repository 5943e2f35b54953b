pub mod Counters
pub mod Lines
pub mod Named
pub mod Next
