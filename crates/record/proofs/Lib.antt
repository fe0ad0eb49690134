pub mod EveryTimer
pub mod WellFormed
