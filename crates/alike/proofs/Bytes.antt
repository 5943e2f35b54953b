-- 02, S-6: "Show that old and new records from the same text stand for the same rights and flows".
pub mod Stands
pub mod Only
pub mod SameText
pub mod Alike
pub mod Counterparts
