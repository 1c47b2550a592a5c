pub mod Remainder
pub mod Pairs
