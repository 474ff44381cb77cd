pub mod Range
pub mod BothWays
pub mod Offsets
pub mod Answers
