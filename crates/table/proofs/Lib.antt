pub mod Earlier
pub mod Faults
