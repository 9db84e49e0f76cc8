pub mod Inside
pub mod Piece
pub mod Strips
pub mod Reading
pub mod Stripes
