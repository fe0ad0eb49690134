pub mod Opening
pub mod Carried
pub mod Laws
pub mod Lengths
mod Parts
