pub mod Digits
mod FixedPoint
mod Kept
pub mod Shown
