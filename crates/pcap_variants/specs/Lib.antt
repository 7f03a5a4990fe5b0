pub mod Variants
pub mod Rows
pub mod Ahead
pub mod Fronts
pub mod Plainly
pub mod Shown
