pub mod Nodes
pub mod Inside
