pub mod RowsBack
pub mod ReadBack
pub mod WriteBack
pub mod Gapless
