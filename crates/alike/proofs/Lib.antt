-- Reading and soundness of the two records; that the operations answer alike.
pub mod Bytes
pub mod Alike
