pub mod Read
pub mod Walk
pub mod Passed
pub mod Steps
pub mod Usual
