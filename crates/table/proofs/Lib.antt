pub mod Lengths
pub mod Searched
pub mod Changing
pub mod Receiving
