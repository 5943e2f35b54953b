-- The version of the header that declares the calls.
pub mod Version
