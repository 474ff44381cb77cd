pub mod Offset
pub mod Presentation
pub mod Kinds
