pub mod Sloping
pub mod Promises
