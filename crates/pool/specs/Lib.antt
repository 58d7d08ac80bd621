pub mod Checks
pub mod Day
pub mod Held
pub mod Rungs
