pub mod ByTest
pub mod Effects
