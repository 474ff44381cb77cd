pub mod ReadBack
pub mod WriteBack
pub mod Successive
