pub mod Lines
pub mod Extending
pub mod Shown
