pub mod Numbers
pub mod Lines
pub mod Refusals
pub mod Drafts
pub mod Faults
