-- The policy text, in reading order.
-- Texts written as such, and whether two byte strings are the same.
pub mod Bytes
-- How a text is cut into lines, and a line into fields.
pub mod Cut
-- What digits and letters write.
pub mod Number
-- Fields that are numbers, and some that are none.
pub mod Examples
-- What a line says, and the lines of a text.
pub mod Lines
-- The texts without hexadecimal numbers.
pub mod DecimalTexts
-- What stands at a place of a text.
pub mod Places
-- The digits at a place.
pub mod Digits
-- What each reader finds at its place, and where it leaves the place.
pub mod Readers
-- What is left of a line at a place, after some of its fields.
pub mod Rest
