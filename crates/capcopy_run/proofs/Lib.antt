mod BlockLists
mod OfBlocks
mod Lines
pub mod Listing
pub mod PacketLists
mod PacketLines
mod Skipping
mod Exits
pub mod Turns
mod AskedWords
