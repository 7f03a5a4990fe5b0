mod Passing
mod Cutting
mod InParts
mod Captures
mod Resumed
mod Anywhere
mod Fair
pub mod Stepping
pub mod Parted
mod Walking
mod Placing
pub mod NgCaptures
mod Asking
mod Joining
mod PartRuns
mod NgPartRuns
