pub mod Ready
pub mod Passed
