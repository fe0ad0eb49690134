pub mod Also
mod ByValue
mod Cache
