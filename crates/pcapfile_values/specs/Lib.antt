pub mod Shown
pub mod Refusals
pub mod Blocks
pub mod EnhancedOptions
pub mod Bodies
pub mod AnyPackets
pub mod Reasons
pub mod BlockTexts
