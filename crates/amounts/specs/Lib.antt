pub mod Sums
pub mod Amounts
pub mod Sheets
pub mod Held
pub mod Tallies
pub mod Claims
pub mod Figures
