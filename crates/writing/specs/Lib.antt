pub mod Writing
pub mod Puts
pub mod Files
