pub mod Outer
pub mod Numbers
pub mod Flat
pub mod Laws
pub mod Whole
