pub mod Sets
pub mod Table
pub mod Cell
pub mod Report
