pub mod Names
pub mod Printable
