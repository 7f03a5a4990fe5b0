pub mod Format
pub mod Strict
mod FrameRows
pub mod StandAgain
pub mod KnownBlocks
pub mod Refusing
mod HeldBlocks
mod Copied
mod StrictRuns
pub mod FirstFlaw
mod FedBlocks
mod Outlines
