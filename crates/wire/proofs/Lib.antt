pub mod Numbers
pub mod Halves
pub mod Parts
pub mod Bits
pub mod Fits
