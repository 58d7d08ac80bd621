pub mod Showing
pub mod Writing
pub mod Reading
pub mod Trips
pub mod Only
pub mod PagesHold
pub mod Lengths
pub mod Faults
