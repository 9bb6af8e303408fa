pub mod Tables
pub mod Weighing
pub mod Lent
