-- In reading order: a part of memory, the save segment, instructions, one tick as an effect, the schedule place,
-- the machine in the names of source document 003, the opcode that a tick fetches, and what opcode 15 gives.
pub mod Bytes
pub mod Layout
pub mod Save
pub mod Faults
pub mod Decode
pub mod Local
pub mod Tick
pub mod Place
pub mod Machine
pub mod Fetches
pub mod Stamps
