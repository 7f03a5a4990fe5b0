mod Behind
pub mod BlockCuts
mod BlockParts
mod ChangedPackets
mod Chosen
mod FrontCuts
mod JoinedBlocks
mod JoinedParts
mod Passing
mod Repeating
mod Resolutions
mod ShortBlocks
mod Steps
