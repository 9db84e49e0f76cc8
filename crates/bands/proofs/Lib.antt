-- What the proofs of several functions share.
pub mod Rows
pub mod Nodes
pub mod Walk
