pub mod BodiesSaid
pub mod CutBlocks
pub mod StrictAgain
