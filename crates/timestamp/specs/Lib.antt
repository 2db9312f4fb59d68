pub mod Rfc1982
pub mod Floats
pub mod Timestamps
pub mod Whole
pub mod FloatTimestamps
