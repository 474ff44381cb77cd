pub mod Wrapping
