pub mod Below
pub mod Ranges
