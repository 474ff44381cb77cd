pub mod Decimals
pub mod Signs
pub mod Sets
pub mod Puts
pub mod Ends
pub mod EightDigits
