pub mod Listing
pub mod Example
pub mod Unlimited
pub mod Chunks
pub mod InChunks
pub mod Private
