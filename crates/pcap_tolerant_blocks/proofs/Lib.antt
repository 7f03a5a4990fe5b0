mod Lists
mod StrictLists
pub mod StrictBodies
mod Bodies
pub mod OneAsIs
pub mod OneBodies
mod Growth
pub mod Pieces
pub mod RecordsAsIs
pub mod StrictNames
pub mod OneNames
pub mod OneSound
mod NextFlaw
mod FirstClock
pub mod BodyFlaws
