pub mod Brink
pub mod FinalSum
