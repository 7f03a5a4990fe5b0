pub mod Inside
pub mod Results
pub mod Texts
pub mod Valid
pub mod Walking
