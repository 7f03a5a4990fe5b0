pub mod Converted
pub mod Converts
pub mod Conversion
pub mod Placed
pub mod Placing
pub mod RoundTrip
