pub mod Fields
pub mod Handed
