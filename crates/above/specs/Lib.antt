pub mod Inspectable
pub mod Promises
