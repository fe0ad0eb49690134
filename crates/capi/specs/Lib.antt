pub mod Part
pub mod Returned
pub mod Host
pub mod Arrived
