pub mod Lines
pub mod Terms
pub mod Faults
pub mod Calls
pub mod Reports
pub mod Statements
pub mod Courses
pub mod Settles
