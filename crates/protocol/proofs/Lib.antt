pub mod Agreement
mod Along
pub mod Always
pub mod Audit
mod BlockEvents
pub mod Blocks
pub mod Carried
pub mod Cases
pub mod Decided
pub mod Faults
pub mod Follows
mod Hearing
pub mod Joined
mod Kept
pub mod Live
pub mod Moved
pub mod Sheet
mod Standings
pub mod Stepped
mod Tasks
