-- What the rules for a line read of a record, what a line has to meet so that it can be added, and the draft that it is added to.
pub mod Parts
pub mod Drafted
