pub mod Varints
pub mod Places
pub mod Lists
