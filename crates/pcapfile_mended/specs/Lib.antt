pub mod CutOff
pub mod Described
pub mod Mended
