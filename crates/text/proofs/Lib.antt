pub mod Decimal
pub mod Spans
pub mod Canonical
pub mod Cuts
pub mod Drafting
pub mod Lined
pub mod FirstLines
pub mod Plans
