pub mod Signed
pub mod Modulo
pub mod Offset
