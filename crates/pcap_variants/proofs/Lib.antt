pub mod Rows
pub mod Going
