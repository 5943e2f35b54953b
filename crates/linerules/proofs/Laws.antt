pub mod Fits
pub mod Ends
pub mod Saves
pub mod Stored
