pub mod Also
pub mod Lent
