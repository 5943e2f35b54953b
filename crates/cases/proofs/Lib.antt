-- The one claim over all cases.
pub mod Claim
