-- Laws of masks, and of widening.
pub mod Laws
