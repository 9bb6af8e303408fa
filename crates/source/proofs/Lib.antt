pub mod Sizes
pub mod Starting
pub mod Heeding
pub mod Disputing
pub mod Weights
pub mod Sifting
pub mod Settling
pub mod Noting
