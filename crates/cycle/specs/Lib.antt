pub mod CycleTime
pub mod Judgement
pub mod Kinds
