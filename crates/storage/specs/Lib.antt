pub mod Over
pub mod Sampled
pub mod Promises
