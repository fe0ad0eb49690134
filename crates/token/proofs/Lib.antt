pub mod Difference
pub mod Good
pub mod NoMargin
pub mod Numbers
