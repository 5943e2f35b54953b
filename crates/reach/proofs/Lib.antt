-- That the answers are exact and agree, and the laws that the functions' proofs cite.
pub mod Laws
pub mod Exact
pub mod Agrees
