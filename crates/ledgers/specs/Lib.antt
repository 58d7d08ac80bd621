pub mod Tables
pub mod Limits
pub mod Shown
pub mod Steps
