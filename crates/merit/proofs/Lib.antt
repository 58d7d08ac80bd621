pub mod Unwrapping
pub mod Ranking
pub mod Margins
pub mod Least
pub mod Filling
pub mod Counting
pub mod Sound
