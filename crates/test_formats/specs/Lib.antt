pub mod SampleReader
pub mod Samples
