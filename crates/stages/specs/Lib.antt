pub mod Numbered
pub mod Promises
