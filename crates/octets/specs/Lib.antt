-- Numbers of two and of four bytes.
pub mod Numbers
