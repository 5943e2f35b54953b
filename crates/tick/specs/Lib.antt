-- A tick over the arrays of a policy record, what it rests on, and its steps by numbers.
pub mod Seat
pub mod At
pub mod Done
