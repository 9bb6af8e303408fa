pub mod Counts
pub mod Waiting
pub mod Acting
pub mod News
pub mod Keeping
pub mod Weights
