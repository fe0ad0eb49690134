pub mod Arms
mod Cells
pub mod Finite
pub mod Options
