-- What each call answers.
pub mod Results
