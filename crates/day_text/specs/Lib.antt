pub mod Keywords
pub mod Faults
pub mod Words
pub mod Signs
pub mod Lines
