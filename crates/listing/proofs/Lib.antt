pub mod Listed
pub mod Near
pub mod Feeding
pub mod Replaying
