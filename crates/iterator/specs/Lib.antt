pub mod Intervals
pub mod Readers
pub mod Feeding
