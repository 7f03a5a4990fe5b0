pub mod OneUpTo
pub mod RawRead
