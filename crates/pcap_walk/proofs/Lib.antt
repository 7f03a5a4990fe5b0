pub mod Counted
pub mod MetBlocks
pub mod MetPackets
pub mod Walks
