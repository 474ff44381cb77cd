pub mod LastAdmission
pub mod Staying
pub mod Example
