pub mod Zeros
pub mod Tables
pub mod Held
pub mod Rights
pub mod Flows
pub mod Ends
