-- In reading order. What a policy is:
-- the limits of a head, what a rule asks of a policy, what a partition may reach, the schedule and how long a partition is silent in it, chains of
-- flow lines.
pub mod Below
pub mod Limits
pub mod View
pub mod Access
pub mod Schedule
pub mod Silence
pub mod Chain
-- The rules for a line, 3 to 5, and for the whole policy, 6 to 8 and 16; rule 8 by target.
pub mod Order
pub mod Range
pub mod Clash
pub mod Whole
pub mod ByTarget
-- The record in parts, what a line adds to it, and the reading of a text into it; the single head's record.
pub mod Tables
pub mod Modes
pub mod Draft
pub mod First
pub mod Refusals
pub mod Read
pub mod Record
-- The number of each answer to a question about a policy.
pub mod Asked
-- Which records are sound, the test that decides it, what it gives, and what a save segment's sources are; what rule 16 changes.
pub mod Sound
pub mod Lawful
pub mod Dia
pub mod Fewer
