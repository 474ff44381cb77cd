pub mod Obeying
pub mod Lines
pub mod InChunks
pub mod Unlimited
pub mod Turns
