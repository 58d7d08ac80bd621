pub mod Running
pub mod Entering
