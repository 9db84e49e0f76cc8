pub mod Read
pub mod Records
pub mod Fields
