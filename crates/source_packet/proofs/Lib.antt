pub mod Blocks
pub mod Starts
