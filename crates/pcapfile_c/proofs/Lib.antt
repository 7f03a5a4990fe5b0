pub mod Refused
pub mod Many
pub mod Passages
pub mod Pushed
pub mod PushedPackets
pub mod RoomLaws
pub mod Pushes
pub mod PushedBlocks
pub mod BlockLaws
pub mod Passing
pub mod PacketsCome
pub mod PushedNgPackets
pub mod PacketLaws
pub mod PutParts
pub mod Fitting
pub mod RawFitting
pub mod WithOptions
pub mod PutsAgain
pub mod CutPlaces
pub mod RowTexts
mod TakenOptions
mod EitherFormat
pub mod AnyTaken
mod AnyNgTaken
mod Standing
