-- What the proofs of several functions share.
pub mod Stored
pub mod Rings
pub mod Row
