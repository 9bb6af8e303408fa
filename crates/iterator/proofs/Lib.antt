pub mod News
pub mod Published
pub mod Feeding
pub mod Weighing
pub mod Sizes
