-- What a number of two bytes is after a store; the functions' proofs stand beside it.
pub mod Laws
