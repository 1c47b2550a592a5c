pub mod Said
pub mod Stretch
