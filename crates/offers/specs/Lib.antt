pub mod Tests
pub mod Curves
pub mod Submissions
pub mod Claims
