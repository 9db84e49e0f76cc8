pub mod Counted
pub mod Lifted
pub mod Powers
pub mod Quotient
