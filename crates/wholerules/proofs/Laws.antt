pub mod Parts
pub mod Filled
pub mod Asked
pub mod Strays
pub mod Sources
pub mod Lackers
