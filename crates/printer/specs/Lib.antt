-- In reading order: how a number is written, how a record is, what that needs of a head, and that it is bytes.
pub mod Decimal
pub mod Printer
pub mod Roomy
pub mod Bytes
