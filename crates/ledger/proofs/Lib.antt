pub mod Tested
pub mod Rows
pub mod Moves
pub mod Totals
pub mod Spans
