pub mod Records
pub mod Numbers
pub mod Sizes
pub mod Parts
pub mod Edges
pub mod Walk
pub mod InChunks
pub mod Private
