pub mod Reach
pub mod Record
pub mod Alone
