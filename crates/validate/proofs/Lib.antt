-- Laws of the definitions, one subject a file.
pub mod Laws
