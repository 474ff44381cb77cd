pub mod Found
pub mod Groups
pub mod Answers
pub mod Ignored
