pub mod EachInterface
pub mod Largest
pub mod Numbers
pub mod Padding
pub mod Pieces
pub mod Plain
pub mod Sums
