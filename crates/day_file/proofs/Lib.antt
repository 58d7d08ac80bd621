pub mod Sums
pub mod Lined
pub mod Faulty
pub mod Courses
pub mod Settles
pub mod Stating
