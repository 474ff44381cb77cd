pub mod Layout
pub mod Checks
pub mod Reading
pub mod Ignored
