-- In reading order: what the operations ask of a record, what they answer, the three operations, what a refused one
-- returns, lists of calls, the separation that demand 3
-- asks, the machine with fewer opcodes, which partition is current after so many ticks, the count of them, and what those who call
-- the operations may rely on.
pub mod Under
pub mod Outcomes
pub mod Start
pub mod Pend
pub mod Run
pub mod Returned
pub mod Lists
pub mod Separation
pub mod Older
pub mod Current
pub mod Count
pub mod Integrators
