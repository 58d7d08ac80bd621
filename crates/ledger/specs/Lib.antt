pub mod View
pub mod Posting
pub mod Rows
pub mod Sums
