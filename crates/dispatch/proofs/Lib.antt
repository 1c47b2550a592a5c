pub mod Tests
pub mod Saved
pub mod Begun
