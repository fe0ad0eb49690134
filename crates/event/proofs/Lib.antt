pub mod NoMargin
mod Opening
