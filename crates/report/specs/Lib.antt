-- The report, and which readings have one that fits.
pub mod Report
pub mod Reportable
