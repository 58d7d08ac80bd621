pub mod Failures
pub mod Sources
pub mod Days
