pub mod Digits
pub mod Exits
pub mod Lines
pub mod Uninterrupted
