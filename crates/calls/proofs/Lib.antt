-- Laws of the operations, what a refused one returns, the normal form of a list of calls, demand 3, where the ticks of the schedule lie, their count, and the laws for
-- those who call the operations.
pub mod Laws
pub mod Returned
pub mod Plan
pub mod Gap
pub mod Separation
pub mod Older
pub mod SlotAt
pub mod Count
pub mod Integrators
