pub mod Limits
pub mod Timer
pub mod Tags
pub mod WellFormed
pub mod Numbers
