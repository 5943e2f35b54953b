-- What the lines of a text can say.
pub mod Letters
-- Tests, byte strings, pieces and fields.
pub mod Bools
pub mod Bytes
pub mod Cut
pub mod Ends
pub mod Stops
-- Words, numbers and digits at a place.
pub mod Words
pub mod Numbers
pub mod Digits
pub mod Scan
pub mod Found
-- The fields from a place on, the readers' steps along them, that the place moves forward, and the whole line.
pub mod Fields
pub mod Readers
pub mod Forward
pub mod Line
