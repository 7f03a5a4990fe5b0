pub mod Changes
pub mod Opened
pub mod Rows
