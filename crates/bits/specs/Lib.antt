-- Masks of bits.
pub mod Masks
