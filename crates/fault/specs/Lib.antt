pub mod Fault
pub mod Refusals
