pub mod Spelling
pub mod RoundTrip
pub mod Putting
pub mod Forming
pub mod Appending
