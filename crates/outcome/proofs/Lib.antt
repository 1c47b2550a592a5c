pub mod Converted
pub mod Told
