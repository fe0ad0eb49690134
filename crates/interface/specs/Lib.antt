pub mod Answer
pub mod Choice
pub mod Event
pub mod Verdict
