pub mod Times
pub mod Input
pub mod Reading
pub mod Comparing
pub mod Telling
