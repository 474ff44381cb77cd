mod Following
mod Counting
mod Distances
mod Summing
mod Ranges
mod Texts
pub mod Totals
mod InChunks
mod AddingUp
