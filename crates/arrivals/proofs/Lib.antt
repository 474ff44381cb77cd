pub mod Places
pub mod Directed
pub mod Counts
pub mod Claim
pub mod Limits
pub mod Listener
pub mod Fixed
