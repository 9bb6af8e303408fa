pub mod Numbers
pub mod Cuts
pub mod Fields
pub mod Values
pub mod Said
pub mod Format
pub mod Ahead
pub mod Blocks
