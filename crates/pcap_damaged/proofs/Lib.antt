mod Texts
mod Rows
pub mod Judging
mod ByLength
