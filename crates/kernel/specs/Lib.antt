-- What the contracts of a Run's inner loop cite.
pub mod Stretch
