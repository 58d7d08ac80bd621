pub mod Book
pub mod Law
pub mod Claims
