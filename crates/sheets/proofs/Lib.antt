pub mod Lists
pub mod Registers
pub mod Blank
pub mod Sheets
pub mod States
