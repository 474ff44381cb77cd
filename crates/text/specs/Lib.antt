pub mod Text
pub mod Putting
pub mod InTurn
pub mod Private
