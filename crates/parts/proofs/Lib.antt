-- The counter in memory after save bytes were put back; the functions' proofs stand beside it.
pub mod Laws
