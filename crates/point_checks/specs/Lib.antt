pub mod Told
pub mod Sure
pub mod Spots
