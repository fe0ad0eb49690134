pub mod Kind
pub mod Call
