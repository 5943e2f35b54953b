-- What is proved of the sheet, and the laws that the functions' proofs cite.
pub mod Laws
pub mod Shown
