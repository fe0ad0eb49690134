pub mod Varint
pub mod Layout
pub mod Lists
pub mod Parts
pub mod Bytes
