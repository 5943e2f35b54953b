pub mod Writer
pub mod Digits
