pub mod ByEvent
