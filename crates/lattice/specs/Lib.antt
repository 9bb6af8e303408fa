pub mod Orders
pub mod Sameness
