pub mod Options
pub mod Sheets
pub mod Postings
