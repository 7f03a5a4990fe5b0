pub mod Buffered
pub mod Counts
pub mod Statuses
