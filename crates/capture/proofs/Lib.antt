pub mod Fronts
pub mod Parts
pub mod Limits
pub mod InChunks
pub mod Kept
pub mod Steps
