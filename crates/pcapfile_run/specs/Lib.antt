pub mod BlockPackets
pub mod Checks
pub mod Formats
pub mod Lines
pub mod PacketTexts
pub mod Passing
pub mod SoundBlocks
pub mod WiderCauses
