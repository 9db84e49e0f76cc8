pub mod Weighing
pub mod Sums
