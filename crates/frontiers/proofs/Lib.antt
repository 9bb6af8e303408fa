pub mod Lines
pub mod Frontiers
