pub mod Ends
pub mod Passing
mod SoundBlocks
pub mod Told
