pub mod Pair
pub mod Shown
pub mod Remainder
