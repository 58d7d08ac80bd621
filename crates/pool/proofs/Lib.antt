pub mod Passing
pub mod Laying
