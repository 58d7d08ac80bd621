pub mod Slots
pub mod Seats
pub mod Sorting
pub mod Totals
pub mod Holding
