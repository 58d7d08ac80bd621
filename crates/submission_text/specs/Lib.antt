pub mod Read
pub mod Write
pub mod Claims
pub mod Faults
