-- A row's numbers, and what a writer adds.
pub mod Row
pub mod Writer
