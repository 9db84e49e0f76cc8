pub mod Scratch
pub mod Sizes
pub mod Judging
pub mod Kept
