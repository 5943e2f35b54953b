-- That an answer decides soundness.
pub mod Decides
