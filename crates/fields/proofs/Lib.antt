pub mod Forms
pub mod Content
pub mod FieldSteps
pub mod OneField
pub mod Fitting
pub mod FittingKeys
pub mod Onward
pub mod Inner
