pub mod Arrived
pub mod Host
mod Part
mod Read
