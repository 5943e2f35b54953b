-- Laws of the definitions, one subject a file; rule 8 by target; what a sound record gives; that an accepted text's record passes the test;
-- what every answer of reading has; what decimal texts give; what rule 16 changes; the longest silence and the other numbers of the schedule.
pub mod Laws
pub mod ByTarget
pub mod Entries
pub mod Lawful
pub mod Kept
pub mod Accepted
pub mod Readings
pub mod DecimalTexts
pub mod Fewer
pub mod Longest
pub mod Schedule
