pub mod Spans
pub mod Limits
