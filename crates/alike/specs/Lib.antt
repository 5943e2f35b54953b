-- The record with a byte for each pair, and when a record of masks stands for the same.
pub mod Bytes
-- What a byte record is under, and when the operations answer alike.
pub mod Alike
