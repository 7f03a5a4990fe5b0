pub mod Codes
pub mod Effects
pub mod Machines
pub mod Programs
pub mod Results
pub mod Runs
pub mod Texts
