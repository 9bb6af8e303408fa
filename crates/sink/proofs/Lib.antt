pub mod Asking
pub mod Additions
pub mod Parting
pub mod Sizes
pub mod Pumping
pub mod Recording
pub mod Closing
