pub mod Stores
pub mod Bytes
pub mod Fits
pub mod Accepted
pub mod Answers
