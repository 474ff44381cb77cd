pub mod Report
pub mod Totals
pub mod InChunks
pub mod Example
