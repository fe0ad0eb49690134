pub mod SecondsLeft
pub mod Answer
pub mod Numbers
pub mod Good
