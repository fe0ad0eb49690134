pub mod Schema
pub mod Faults
pub mod Message
pub mod Contents
pub mod Fields
pub mod Steps
