pub mod Tables
pub mod Senders
pub mod Pumps
