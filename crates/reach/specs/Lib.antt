-- In reading order: whether a chain leads from one segment to another, the rows of the report, what both questions answer, and what is
-- proved of them; then a row's spread on lists of masks alone.
pub mod Via
pub mod Rows
pub mod Answers
pub mod Exact
pub mod Spread
