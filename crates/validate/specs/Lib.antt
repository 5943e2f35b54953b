-- A record of which only the arrays that a test reads are known.
pub mod Parts
