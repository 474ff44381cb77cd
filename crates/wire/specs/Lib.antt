pub mod Bits
pub mod Numbers
pub mod Parts
pub mod RoundTrips
