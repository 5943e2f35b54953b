-- The demonstration policy text, and the cases marked K in document 01.
pub mod Demonstration
pub mod Cases
