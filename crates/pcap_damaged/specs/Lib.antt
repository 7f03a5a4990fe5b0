pub mod Heads
pub mod Plausible
pub mod Weighed
pub mod Lengths
pub mod Judged
