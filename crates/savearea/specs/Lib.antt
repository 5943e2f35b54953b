-- The registers that an instruction names; what it hands to the next tick.
pub mod Named
pub mod Next
