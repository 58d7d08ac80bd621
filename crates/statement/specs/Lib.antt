pub mod Pages
pub mod Refusals
pub mod Write
pub mod Read
pub mod Claims
pub mod Faults
