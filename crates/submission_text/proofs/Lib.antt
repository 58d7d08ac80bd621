pub mod Listing
pub mod Writing
pub mod Trips
pub mod Only
pub mod Claims
pub mod Faults
