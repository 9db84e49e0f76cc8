pub mod Samplable
pub mod Promises
