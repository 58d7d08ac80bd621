pub mod Answers
pub mod Reports
pub mod Rules
pub mod Stations
pub mod Nets
pub mod Postings
pub mod Intakes
pub mod All
