pub mod Json
pub mod Pieces
pub mod Sums
pub mod Table
pub mod Texts
