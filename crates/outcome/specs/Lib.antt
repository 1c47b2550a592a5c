pub mod Converts
pub mod Tellable
pub mod Tells
