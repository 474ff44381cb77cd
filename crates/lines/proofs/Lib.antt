pub mod Lengths
pub mod Placing
