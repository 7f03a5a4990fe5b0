pub mod Leading
pub mod Puts
pub mod Parts
pub mod Passed
pub mod Plain
