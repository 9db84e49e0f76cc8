-- What a storage can refuse of a raster as it is promised.
pub mod Unrefused
pub mod Sampled
pub mod Promises
pub mod Chunks
pub mod Front
