pub mod Differences
pub mod Lengths
pub mod Each
