pub mod Records
pub mod Step
pub mod Answers
pub mod Examples
