pub mod Frames
pub mod Writing
