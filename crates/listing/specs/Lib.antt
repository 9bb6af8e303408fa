pub mod Lessons
pub mod Listing
pub mod Answers
