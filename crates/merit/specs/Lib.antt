pub mod Rungs
pub mod Prices
pub mod Held
pub mod Working
pub mod Claims
