pub mod Offset
pub mod Reckoning
pub mod Limits
