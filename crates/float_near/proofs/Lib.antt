pub mod Fraction
pub mod Quotient
pub mod Shift
pub mod WholeRange
