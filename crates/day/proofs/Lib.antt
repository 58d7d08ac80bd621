pub mod Passed
pub mod Pages
pub mod Answering
pub mod Standing
pub mod Settled
pub mod Gains
pub mod Runs
pub mod Posts
