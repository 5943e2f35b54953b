-- The text: numbers, fields and lines read back.
pub mod Decimal
pub mod Cut
pub mod Lines
pub mod Bytes
-- What the test tells of a record, and how long its lines are.
pub mod Passed
pub mod Fits
pub mod Bound
-- The record: reading its lines, stage by stage.
pub mod Upto
pub mod Lows
pub mod Widths
pub mod Order
pub mod Reaches
pub mod Stage
pub mod Fold
