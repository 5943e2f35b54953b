-- Laws that the functions' proofs cite, one subject a file.
pub mod Laws
