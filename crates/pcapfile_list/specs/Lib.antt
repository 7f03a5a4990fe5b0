pub mod FileLines
pub mod FormedLines
pub mod Numbered
pub mod NumberedLaws
pub mod StoredBlocks
pub mod WalkedLists
