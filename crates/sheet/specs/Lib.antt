-- In reading order: the sheet of a record, what is proved of it, and what the loops hand on.
pub mod Answer
pub mod Shown
pub mod Slots
