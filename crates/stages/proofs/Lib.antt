-- What the proofs of several functions share.
pub mod Bracket
pub mod Parts
pub mod Rounded
pub mod Found
