pub mod Wrote
pub mod Decimal
