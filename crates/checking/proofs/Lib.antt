-- What reading a text gives the report.
pub mod Laws
