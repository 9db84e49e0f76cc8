pub mod Ring
pub mod Solver
pub mod Difference
pub mod Size
pub mod Table
pub mod Partly
