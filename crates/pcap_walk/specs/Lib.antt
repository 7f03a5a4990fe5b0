pub mod CountedItems
pub mod MetBlocks
pub mod MetPackets
pub mod Walks
