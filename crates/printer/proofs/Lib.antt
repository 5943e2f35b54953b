-- The laws, one subject a file, and the theorems: each record that the test lets pass has a text, and one of bytes.
pub mod Laws
pub mod Printed
pub mod Bytes
