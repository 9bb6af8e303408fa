pub mod Cutting
pub mod Digits
pub mod Fielding
pub mod Reading
pub mod Opening
pub mod Adding
