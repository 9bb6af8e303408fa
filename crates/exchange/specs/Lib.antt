pub mod Books
pub mod Calls
pub mod Ran
pub mod Kept
pub mod Law
