pub mod Tests
pub mod Spans
pub mod Sheets
pub mod Held
pub mod Shown
pub mod Changes
pub mod Claims
