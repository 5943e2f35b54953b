-- What the lowest set bit of a byte is; the functions' proofs stand beside it.
pub mod Laws
