pub mod Readings
pub mod Weeks
pub mod Lessons
pub mod Choices
