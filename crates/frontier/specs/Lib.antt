pub mod Frontiers
pub mod Counts
pub mod Tables
pub mod Laws
