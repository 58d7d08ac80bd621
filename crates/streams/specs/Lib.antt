pub mod Inputs
pub mod Outputs
