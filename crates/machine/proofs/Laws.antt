pub mod Parts
pub mod Numbers
pub mod Opcodes
pub mod Tests
pub mod Places
pub mod Positions
pub mod Written
