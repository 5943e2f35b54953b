-- The report on a text, and the answer to a question about it.
pub mod Report
pub mod Question
